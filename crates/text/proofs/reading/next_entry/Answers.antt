use Rattle.text.proofs.Bodies.{no_line, reads}
use Rattle.text.proofs.Options.{weaker}
use Rattle.text.proofs.reading.next_entry.Goals as goal

pub returns : goal.returns
returns c =
    let got = c.in_ok-next_line.ensures in
    weaker c.entry.result (no_line got.0) (λ e s. (reads got.0 s, got.1)) c.entry.ensures
