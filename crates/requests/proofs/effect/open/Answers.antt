use Rattle.requests.proofs.effect.open.Goals as goal

pub returns : goal.returns
returns c = cc (c.add-3.ensures, c.add-2.ensures, c.add.ensures, c.set_session.ensures, c.set_item.ensures)
