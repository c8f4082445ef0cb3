-- What the program prints: at the end of a recording in instalments, what the drawing program prints of a whole one.
use Rattle.std.specs.Prelude.{List, ℕ}
use Rattle.printing.specs.Printing.{text_of}
use Rattle.instalments.specs.Instalments.{Taking, ending}

-- the text of a recording that has come so far, once the end is told
unfoldable pub received : Taking → List ℕ
received t = text_of (ending t).so
