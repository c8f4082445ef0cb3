-- `write::put_last` meets its contract. Assumes nothing.
use mathlib.Core.Path.{◌≡◌, sym, ap, ◌∙◌}
use mathlib.Core.List.{[], ◌∷◌}
use lib.Seq.{sets}
use Rattle.stream.specs.Format.{pack_of}
use Rattle.stream.proofs.Stream.{pack_one}
use Rattle.stream.proofs.Filling.{stores}
use Rattle.stream.proofs.write.put_last.Goals as goal

pub returns : goal.returns
returns c =
    let a = c.args in
    let bytes : c.low_byte.result ∷ c.low_byte-2.result ∷ c.seam.result ∷ [] ≡ pack_of (a.v ∷ []) =
    rw (c.low_byte.ensures, c.low_byte-2.ensures, c.seam.ensures) (sym (pack_one a.v)) in
    stores a.out.now a.k _ (_ ∷ _ ∷ []) ∙ ap (sets a.out.now a.k) bytes
