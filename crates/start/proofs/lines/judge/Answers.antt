-- Four sorts of line have a number that no need asks for.
use Rattle.start.proofs.lines.judge.Goals as goal

pub returns-in-Root : goal.returns-in-Root
returns-in-Root g c = rw c.in-Root.is (c.root.ensures c.in-Root.mark)

pub returns-in-Account : goal.returns-in-Account
returns-in-Account g c = rw c.in-Account.is (c.account.ensures c.in-Account.guarded)

pub returns-in-Role : goal.returns-in-Role
returns-in-Role g c = rw c.in-Role.is (c.role.ensures c.in-Role.kind)

pub returns-in-Container : goal.returns-in-Container
returns-in-Container g c = rw c.in-Container.is (c.container.ensures c.in-Container.mark)
