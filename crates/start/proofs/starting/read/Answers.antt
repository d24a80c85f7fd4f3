use Rattle.std.proofs.Common.{◌≡◌, sym, subst, rules}
use Rattle.std.proofs.lemmas.Result.{err_from_is_err_and}
use Rattle.text.specs.declared.record.Refusal.{Refusal as Report}
use Rattle.text.specs.Lines.{First}
use Rattle.model.specs.declared.answer.StartRefusal.{StartRefusal}
use Rattle.model.specs.Records.{State}
use Rattle.model.specs.Flows.{Settles}
use Rattle.block.specs.Reading.{state_of}
use Rattle.start.specs.Starts.{refusal_for, Refuses, first, second}
use Rattle.start.proofs.Mapped.{mapped_ok, mapped_err}
use Rattle.start.proofs.starting.read.Goals as goal

-- a refusal of the first reading, as a start tells it
abbrev Told : Report → StartRefusal → Type 0
Told at why = why ≡ record { refusal = refusal_for at.fault; line = at.line }

pub returns-in_err-map_err : goal.returns-in_err-map_err
returns-in_err-map_err g c =
    let o = g.O.LevelOrder.meaning c.args.order.now in
    let h = g.R.HouseRule.answers c.args.rule.now in
    let p = err_from_is_err_and c.from_residual.result c.from_residual.ensures.1 in
    let at = mapped_err Told c.map_err.result c.first_reading.result c.in_err-map_err.field-0.0 (search rules) c.in_err-map_err.was in
    rw (p.1, p.2) (subst (Refuses o h c.args.text.now) (sym at.2) (first at.0.fault (subst (First c.args.text.now) at.1 c.first_reading.ensures)))

pub returns-in_err-second_reading : goal.returns-in_err-second_reading
returns-in_err-second_reading g c =
    let p = err_from_is_err_and c.from_residual-in_err-second_reading.result c.from_residual-in_err-second_reading.ensures.1 in
    let read = subst (First c.args.text.now) (mapped_ok Told c.map_err.result c.first_reading.result _ (search rules) c.in_ok-map_err.was) c.first_reading.ensures in
    rw (p.1, p.2) (second read.1 (c.in_err-second_reading.ensures read.0 read.1 (c.fill.ensures read.0 read.1 c.requires) c.new-earlier.ensures))

pub returns : goal.returns
returns g c =
    let read = subst (First c.args.text.now) (mapped_ok Told c.map_err.result c.first_reading.result _ (search rules) c.in_ok-map_err.was) c.first_reading.ensures in
    let filled = c.fill.ensures read.0 read.1 c.requires in
    record {
      lines = read.0;
      read = read.1;
      clean = c.in_ok-second_reading.ensures read.0 read.1 filled c.new-earlier.ensures;
      settled = subst (λ (given : State). Settles given (state_of c.fill.new.all.tables c.settle.new.relations)) filled c.settle.ensures;
    }
