-- What the promises of the calls settle: one outcome each, the round trips, and that the entries for C see what `unpack` writes.
-- Assumes nothing.
use mathlib.Core.Path.{◌≡◌, refl, sym, ap, ap₂, ◌∙◌}
use mathlib.Core.Bool.{true, cond}
use mathlib.Core.List.{List, ◌++◌}
use Prim.Native.Nat.{ℕ, ◌+◌, ◌*◌, ◌^◌, ◌≤◌, ◌<◌}
use lib.ListN.{length, get_or, take, drop, get_or-append}
use lib.Seq.{take-append_seam}
use lib.Arith.{digits_div}
use lib.Dec.{eqb}
use Rattle.stream.specs.Format.{bits, fit, unpack_of, pack_of, word_at}
use Rattle.stream.specs.Calls.{checked, no_room, over, Outcome, written, unpacking, packing, coded_number, size_of, coded_told, entry, word_count, word_entry, Answer, answer, answered}
use Rattle.std.specs.Prelude.{Result, Ok, Err}
use borrow.Author.Tests.{ne_eqb}
use native.Mathlib.Omega.{arith}
use Rattle.ground.specs.Refusal.{number}
use Rattle.ground.specs.declared.Refusal.{Refusal}
use Rattle.ground.proofs.Numbers.{number_positive, refusal_of, refusal_back}
use Rattle.stream.proofs.Bits.{Fits, fits, fits_test, bits_split, bits_low}
use Rattle.stream.proofs.Calls.{next_told, good, room_told, refusal_told, unpack_done, pack_done, count_good, word_good}
use Rattle.stream.proofs.Round.{unpack_fits, unpack_pack, pack_unpack, packed_good}

-- ---- any two outcomes that a contract allows are equal

-- an answer is known by its number and its length
coded_of : ℕ → ℕ → Result ℕ Refusal
coded_of number size = cond (eqb number 0) (Ok size) (Err (refusal_of number))

coded_back : (r : Result ℕ Refusal) → coded_of (coded_number r) (size_of r) ≡ r
unfolding coded_of
coded_back (Ok n) = refl
coded_back (Err refusal) = rw (ne_eqb (number refusal) 0 (λ z. omega (arith, number_positive refusal, z)), refusal_back refusal)

-- of `pack` and of `unpack`: the answer and the whole output
pub settled : {o : Outcome} {r r' : Result ℕ Refusal} {left left' : List ℕ} → coded_told r left ≡ o → coded_told r' left' ≡ o → (r ≡ r') × (left ≡ left')
settled {r = r} {r' = r'} p q =
    let same = p ∙ sym q in
    (sym (coded_back r) ∙ ap (λ (t : Outcome). coded_of t.refusal t.size) same ∙ coded_back r', ap (λ (t : Outcome). t.left) same)

-- of an entry for C that writes: the answer and the whole output
pub answer_settled : {a : Answer} {r r' : ℕ} {left left' : List ℕ} → answer r left ≡ a → answer r' left' ≡ a → (r ≡ r') × (left ≡ left')
answer_settled p q =
    let same = p ∙ sym q in
    (ap (λ (a : Answer). a.told) same, ap (λ (a : Answer). a.left) same)

-- ---- the round trips, as the two calls make them

take_over : (new old : List ℕ) → take (length new) (over new old) ≡ new
unfolding over
take_over new old = take-append_seam new (drop (length new) old)

get_d_over : (new old : List ℕ) (k : ℕ) → k < length new → get_or (over new old) k 0 ≡ get_or new k 0
unfolding over
get_d_over new old k h = get_or-append new (drop (length new) old) 0 k h

-- packing words that fit, and unpacking a good stream, with room enough
packs : (ws out : List ℕ) → Fits 20 ws → length (pack_of ws) ≤ length out → packing ws out ≡ written (pack_of ws) out
packs ws out f room = sym (pack_done ws out (fits_test f) room refl refl)

unpacks : (s out : List ℕ) → checked s 0 ≡ 0 → length (unpack_of s) ≤ length out → unpacking s out ≡ written (unpack_of s) out
unpacks s out g room = sym (unpack_done s out g room refl refl)

-- what such a call wrote, taken from the output by the length that it tells
wrote : (result out : List ℕ) (r : Result ℕ Refusal) {left : List ℕ} → coded_told r left ≡ written result out → take (size_of r) left ≡ result
wrote result out r e = ap (λ (t : Outcome). take t.size t.left) e ∙ take_over result out

-- words of 20 bits, packed with room enough and unpacked with room enough, are the same words
pub words_back : (ws out packed o o' : List ℕ) (r r' : Result ℕ Refusal)
    → fit 20 ws ≡ true
    → length (pack_of ws) ≤ length out
    → coded_told r packed ≡ packing ws out
    → length ws ≤ length o
    → coded_told r' o' ≡ unpacking (take (size_of r) packed) o
    → (r' ≡ Ok (length ws)) × (o' ≡ over ws o)
words_back ws out packed o o' r r' f room p room' q =
    let stream : take (size_of r) packed ≡ pack_of ws = wrote (pack_of ws) out r (p ∙ packs ws out (fits 20 ws f) room) in
    let words : unpack_of (pack_of ws) ≡ ws = unpack_pack (fits 20 ws f) in
    settled
    (q ∙ ap (λ (s : List ℕ). unpacking s o) stream
    ∙ unpacks (pack_of ws) o (packed_good ws) (rw words room')
    ∙ ap (λ (l : List ℕ). written l o) words)
    refl

-- a good stream, unpacked with room enough and packed with room enough, is the same stream
pub bytes_back : (s out words o o' : List ℕ) (r r' : Result ℕ Refusal)
    → fit 8 s ≡ true
    → checked s 0 ≡ 0
    → length (unpack_of s) ≤ length out
    → coded_told r words ≡ unpacking s out
    → length s ≤ length o
    → coded_told r' o' ≡ packing (take (size_of r) words) o
    → (r' ≡ Ok (length s)) × (o' ≡ over s o)
bytes_back s out words o o' r r' f g room p room' q =
    let held : take (size_of r) words ≡ unpack_of s = wrote (unpack_of s) out r (p ∙ unpacks s out g room) in
    let bytes : pack_of (unpack_of s) ≡ s = pack_unpack (fits 8 s f) g in
    settled
    (q ∙ ap (λ (ws : List ℕ). packing ws o) held
    ∙ packs (unpack_of s) o (unpack_fits s) (rw bytes room')
    ∙ ap (λ (l : List ℕ). written l o) bytes)
    refl

-- ---- the round trips, as the entries for C make them

-- a success answers the result's length
written_answer : (result out : List ℕ) → answered (written result out) ≡ answer (length result) (over result out)
unfolding answered entry
written_answer result out = refl

-- what such an entry wrote, taken from the output by the length that it answers
entry_wrote : (result out : List ℕ) {r : ℕ} {left : List ℕ} → answer r left ≡ answered (written result out) → take r left ≡ result
entry_wrote result out e = ap (λ (a : Answer). take a.told a.left) (e ∙ written_answer result out) ∙ take_over result out

-- words of 20 bits, packed and unpacked through the entries with room enough, are the same words
pub entry_words_back : (ws out packed o o' : List ℕ) (r r' : ℕ)
    → fit 20 ws ≡ true
    → length (pack_of ws) ≤ length out
    → answer r packed ≡ answered (packing ws out)
    → length ws ≤ length o
    → answer r' o' ≡ answered (unpacking (take r packed) o)
    → (r' ≡ length ws) × (o' ≡ over ws o)
entry_words_back ws out packed o o' r r' f room p room' q =
    let stream : take r packed ≡ pack_of ws = entry_wrote (pack_of ws) out (p ∙ ap answered (packs ws out (fits 20 ws f) room)) in
    let words : unpack_of (pack_of ws) ≡ ws = unpack_pack (fits 20 ws f) in
    answer_settled
    (q ∙ ap (λ (s : List ℕ). answered (unpacking s o)) stream
    ∙ ap answered (unpacks (pack_of ws) o (packed_good ws) (rw words room'))
    ∙ ap (λ (l : List ℕ). answered (written l o)) words)
    (sym (written_answer ws o))

-- a good stream, unpacked and packed through the entries with room enough, is the same stream
pub entry_bytes_back : (s out words o o' : List ℕ) (r r' : ℕ)
    → fit 8 s ≡ true
    → checked s 0 ≡ 0
    → length (unpack_of s) ≤ length out
    → answer r words ≡ answered (unpacking s out)
    → length s ≤ length o
    → answer r' o' ≡ answered (packing (take r words) o)
    → (r' ≡ length s) × (o' ≡ over s o)
entry_bytes_back s out words o o' r r' f g room p room' q =
    let held : take r words ≡ unpack_of s = entry_wrote (unpack_of s) out (p ∙ ap answered (unpacks s out g room)) in
    let bytes : pack_of (unpack_of s) ≡ s = pack_unpack (fits 8 s f) g in
    answer_settled
    (q ∙ ap (λ (ws : List ℕ). answered (packing ws o)) held
    ∙ ap answered (packs (unpack_of s) o (unpack_fits s) (rw bytes room'))
    ∙ ap (λ (l : List ℕ). answered (written l o)) bytes)
    (sym (written_answer s o))

-- ---- the entries for C answer what `unpack` writes

-- a call that is not refused found a good stream, and room
unrefused : (s out : List ℕ) → (unpacking s out).refusal ≡ 0 → (checked s 0 ≡ 0) × (length (unpack_of s) ≤ length out)
unfolding unpacking
unrefused s out z =
    let next = no_room (unpack_of s) out in
    let g = good s next (sym (refusal_told (checked s next) (unpack_of s) out) ∙ z) in
    (next_told s 0 g.0 g.1, room_told (unpack_of s) out g.2)

-- where unpacking refuses nothing, the entries count the words that it tells, and tell at each place the word that it leaves there
pub entries_agree : (s out left : List ℕ) (r : Result ℕ Refusal)
    → coded_told r left ≡ unpacking s out
    → coded_number r ≡ 0
    → (word_count s ≡ size_of r) × ((k : ℕ) → k < size_of r → word_entry s k ≡ get_or left k 0)
unfolding word_at
entries_agree s out left r p z =
    let fine = unrefused s out (sym (ap (λ (o : Outcome). o.refusal) p) ∙ z) in
    let e = p ∙ unpacks s out fine.0 fine.1 in
    let size : size_of r ≡ length (unpack_of s) = ap (λ (o : Outcome). o.size) e in
    let stands : left ≡ over (unpack_of s) out = ap (λ (o : Outcome). o.left) e in (
      count_good s fine.0 ∙ sym size,
      λ k h.
          let in_range : k < length (unpack_of s) = rw size at h in
          word_good s k fine.0 in_range ∙ sym (ap (λ (l : List ℕ). get_or l k 0) stands ∙ get_d_over (unpack_of s) out k in_range),
    )

-- ---- command first

-- a word is its command's four bits and its data's sixteen
pub command_first : (command «data» : ℕ) → «data» < 2 ^ 16 → bits 20 (command * 2 ^ 16 + «data») ≡ bits 4 command ++ bits 16 «data»
unfolding bits
command_first command «data» h =
    bits_split 4 16 (command * 2 ^ 16 + «data») ∙ ap₂ (λ (c : ℕ) (d : List ℕ). bits 4 c ++ d) (digits_div command h) (bits_low 16 command «data»)
