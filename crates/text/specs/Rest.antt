-- What a reader has still to read. Assumes nothing.
use Rattle.std.specs.Prelude.{ℕ, List}
use Rattle.text.specs.declared.reader.Reader.{Reader}

abbrev pub rest : Reader → List ℕ
rest r = r.left.now
