use Rattle.std.proofs.Common.{refl, inl, inr}
use Rattle.model.specs.Form.{mode_of}
use Rattle.model.specs.declared.fact.Fact.TheVariants.{Held, Right, Access, Holding}
use Rattle.block.specs.Reading.{state}
use Rattle.requests.proofs.Effects.{comes, falls, goes}
use Rattle.requests.proofs.effect.carry_out.Goals as goal

pub returns-in-Take : goal.returns-in-Take
returns-in-Take c = comes c.args.q.now (state c.args.records.now) c.in-Take.is (λ f. refl) c.hold_role.ensures

pub returns-in-Drop : goal.returns-in-Drop
returns-in-Drop c = falls c.args.q.now (state c.args.records.now) c.in-Drop.is (Held c.args.q.now.x c.args.q.now.r) refl c.remove.ensures

pub returns-in-Grant : goal.returns-in-Grant
returns-in-Grant c = comes c.args.q.now (state c.args.records.now) c.in-Grant.is (λ f. refl) (simp c.from.ensures at c.add.ensures)

pub returns-in-Revoke : goal.returns-in-Revoke
returns-in-Revoke c = falls c.args.q.now (state c.args.records.now) c.in-Revoke.is (Right c.args.q.now.r c.args.q.now.y (mode_of c.args.q.now.m)) refl (cc)

pub returns-in-Object : goal.returns-in-Object
returns-in-Object c = comes c.args.q.now (state c.args.records.now) c.in-Object.is (λ f. refl) c.create.ensures

pub returns-in-Container : goal.returns-in-Container
returns-in-Container c = comes c.args.q.now (state c.args.records.now) c.in-Container.is (λ f. refl) (simp c.into.ensures at c.create-in-Container.ensures)

pub returns-in-Link : goal.returns-in-Link
returns-in-Link c = comes c.args.q.now (state c.args.records.now) c.in-Link.is (λ f. refl) c.add-in-Link.ensures

pub returns-in-Unlink : goal.returns-in-Unlink
returns-in-Unlink c = falls c.args.q.now (state c.args.records.now) c.in-Unlink.is (Holding c.args.q.now.z c.args.q.now.y) refl c.remove-in-Unlink.ensures

pub returns-in-Delete : goal.returns-in-Delete
returns-in-Delete c =
    elim c.in-Delete.is [ inl e ↦ goes c.args.q.now (state c.args.records.now) e _ refl c.forget.ensures | inr e ↦ goes c.args.q.now (state c.args.records.now) e _ refl c.forget.ensures ]

pub returns-in-Open : goal.returns-in-Open
returns-in-Open c = comes c.args.q.now (state c.args.records.now) c.in-Open.is (λ f. refl) (simp c.session-account.ensures at c.«open».ensures)

pub returns-in-Gain : goal.returns-in-Gain
returns-in-Gain c = comes c.args.q.now (state c.args.records.now) c.in-Gain.is (λ f. refl) (simp c.from-in-Gain.ensures at c.add-in-Gain.ensures)

pub returns-in-GiveUp : goal.returns-in-GiveUp
returns-in-GiveUp c = falls c.args.q.now (state c.args.records.now) c.in-GiveUp.is (Access c.args.q.now.x c.args.q.now.y (mode_of c.args.q.now.m)) refl (cc)
