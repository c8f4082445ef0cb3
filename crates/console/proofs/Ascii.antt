-- Bytes as `Ascii` displays them, each the character of its number. Assumes nothing.
use mathlib.Core.Path.{◌≡◌, sym, ap, ◌∙◌}
use mathlib.Core.List.{List, [], ◌∷◌, ◌++◌, append-nil}
use Prim.Native.Nat.{ℕ, ◌+◌, ◌<◌}
use lib.ListN.{length, get_or, take}
use Rattle.std.proofs.Common.{encode_utf8, encode_utf8_all}
use Rattle.std.proofs.lemmas.List.{take_more}
use Rattle.std.proofs.lemmas.Str.{encodes-append, encodes-IsAscii}
use Rattle.std.specs.Str.{IsAscii}

-- those of ASCII as they are
pub ascii_stays : (bytes : List ℕ) → IsAscii bytes → encode_utf8_all bytes ≡ bytes
ascii_stays bytes low = encodes-IsAscii bytes low

-- one byte more
pub displayed_more : (bytes : List ℕ) (k : ℕ) → k < length bytes
    → encode_utf8_all (take k bytes) ++ encode_utf8 (get_or bytes k 0) ≡ encode_utf8_all (take (k + 1) bytes)
displayed_more bytes k h =
    let byte = get_or bytes k 0 in
    ap (λ rest. encode_utf8_all (take k bytes) ++ rest) (sym (append-nil (encode_utf8 byte)))
    ∙ sym (encodes-append (take k bytes) (byte ∷ []))
    ∙ ap encode_utf8_all (sym (take_more bytes k 0 h))
