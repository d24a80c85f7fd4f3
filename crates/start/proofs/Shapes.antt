-- A line by its shape.
use Rattle.std.proofs.Common.{◌≡◌, sym, subst}
use Rattle.text.specs.declared.record.Line.{Line}
use Rattle.model.specs.Records.{State}
use Rattle.start.specs.Setup.{plus}

pub adds : (S : State) {S' : State} {l shape : Line} → l ≡ shape → S' ≡ plus shape S → S' ≡ plus l S
adds S {S'} e a = subst (λ (k : Line). S' ≡ plus k S) (sym e) a
