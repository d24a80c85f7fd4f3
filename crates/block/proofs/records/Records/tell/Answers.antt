use Rattle.std.proofs.Common.{rules}
use Rattle.block.proofs.Facts.{put_at, right, access}
use Rattle.block.proofs.records.Records.tell.Goals as goal

pub returns-in-Right : goal.returns-in-Right
returns-in-Right c =
    right c.args.self.now c.args.fact c.requires c.args.stands c.in-Right.role c.in-Right.i c.in-Right.mode _ c.in-Right.is
    (put_at c.args.self.now.tables.rights c.in-Right.mode c.in-Right.i c.in-Right.role c.args.stands _ c.put-in-Right.new.self (search rules) (search rules) c.put-in-Right.ensures)

pub returns-in-Access : goal.returns-in-Access
returns-in-Access c =
    access c.args.self.now c.args.fact c.requires c.args.stands c.in-Access.s c.in-Access.i c.in-Access.mode _ c.in-Access.is
    (put_at c.args.self.now.tables.accesses c.in-Access.mode c.in-Access.i c.in-Access.s c.args.stands _ c.put-in-Access.new.self (search rules) (search rules) c.put-in-Access.ensures)
