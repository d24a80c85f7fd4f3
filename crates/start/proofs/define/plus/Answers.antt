use Rattle.block.specs.Reading.{state}
use Rattle.start.proofs.Shapes.{adds}
use Rattle.start.proofs.define.plus.Goals as goal

pub returns-in-Root : goal.returns-in-Root
returns-in-Root c = adds (state c.args.records.now) c.in-Root.is c.add_root.ensures

pub returns-in-Gate : goal.returns-in-Gate
returns-in-Gate c = adds (state c.args.records.now) c.in-Gate.is c.set_gate.ensures

pub returns-in-Account : goal.returns-in-Account
returns-in-Account c = adds (state c.args.records.now) c.in-Account.is c.set_account.ensures

pub returns-in-Role : goal.returns-in-Role
returns-in-Role c = adds (state c.args.records.now) c.in-Role.is (simp c.then_some-manages.ensures at c.set_role.ensures)

pub returns-in-Container : goal.returns-in-Container
returns-in-Container c = adds (state c.args.records.now) c.in-Container.is (simp c.into.ensures at c.add_entity.ensures)

pub returns-in-Object : goal.returns-in-Object
returns-in-Object c = adds (state c.args.records.now) c.in-Object.is c.add_entity-in-Object.ensures

pub returns-in-Session : goal.returns-in-Session
returns-in-Session c = adds (state c.args.records.now) c.in-Session.is c.add_session.ensures

pub returns-in-Held : goal.returns-in-Held
returns-in-Held c = adds (state c.args.records.now) c.in-Held.is c.hold_role.ensures

pub returns-in-Right : goal.returns-in-Right
returns-in-Right c = adds (state c.args.records.now) c.in-Right.is (simp c.from.ensures at c.add.ensures)

pub returns-in-Access : goal.returns-in-Access
returns-in-Access c = adds (state c.args.records.now) c.in-Access.is (simp c.from-in-Access.ensures at c.add-in-Access.ensures)
