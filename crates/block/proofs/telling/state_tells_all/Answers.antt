use Rattle.block.proofs.Sound.{sound_tables, sound_relations}
use Rattle.block.proofs.Told.{told}
use Rattle.block.proofs.telling.state_tells_all.Goals as goal

pub returns : goal.returns
returns c =
    told c.args.a.now c.args.b.now (sound_tables c.args.a.now.tables _ c.type_inv.a.0) (sound_tables c.args.b.now.tables _ c.type_inv.b.0)
    (sound_relations c.args.a.now.relations _ c.type_inv.a.1.0) (sound_relations c.args.b.now.relations _ c.type_inv.b.1.0)
