-- Sorting as the two loops do it: which words are kept and dropped so far, what is left, and what stands in the output and the lists.
-- Assumes nothing.
use mathlib.Core.Path.{◌≡◌, refl, sym, ap, ap₂, ◌∙◌}
use mathlib.Core.Logic.{◌≢◌, ⊎_elim}
use mathlib.Core.Bool.{true}
use mathlib.Core.List.{List, [], ◌∷◌, ◌++◌, append_assoc, append-nil, map}
use Prim.Native.Nat.{ℕ, suc, ◌+◌, ◌-◌, ◌*◌, ◌/◌, ◌%◌, ◌≤◌, ◌<◌}
use native.Mathlib.Nat.{add-zero}
use native.Mathlib.Numerals.{add-one}
use native.Mathlib.Omega.{arith}
use borrow.Author.Tests.{eq-eqb, ne_eqb}
use lib.ListN.{length, get_or, take, drop, set, length-drop, drop_of_length-le, length-map, get_or-map}
use lib.Seq.{sets, sets-eq, set_at, take_all, take-suc, drop-cons, drop-drop, get_or-drop, length-take-le}
use Rattle.std.specs.Prelude.{Option, None, Some, Result, Ok}
use Rattle.ground.specs.declared.Refusal.{Refusal}
use Rattle.stream.specs.Format.{fit, unpack_of, pack_of, word_at}
use Rattle.stream.specs.Calls.{over, coded_told, packing}
use Rattle.stream.proofs.Stream.{parity, length_pack}
use Rattle.stream.proofs.Filling.{front, front_all, pack_turn, pack_last}
use Rattle.stream.proofs.Calls.{pack_done}
use Rattle.stream.proofs.Round.{word_fits}
use Rattle.stream.proofs.Settled.{settled}
use Rattle.registers.specs.declared.Registers.{Registers}
use Rattle.registers.specs.Record.{reset_of}
use Rattle.registers.specs.Word.{word_of}
use Rattle.refusals.specs.Refusal.{next}
use Rattle.machine.specs.Run.{Outcome, outcome}
use Rattle.machine.specs.Machine.{Memories, memories, step_of}
use Rattle.machine.specs.Offers.{next_in}
use Rattle.machine.proofs.Steps.{step_number}
use Rattle.machine.proofs.Offers.{step_registers}
use Rattle.chip.specs.Chip.{chip}
use Rattle.mending.specs.Mend.{kept_in, Dropped, dropped, dropped_in, kept_of, mended_of, dropped_of, indices_of, numbers_of}
use Rattle.mending.specs.Sort.{Judged, put_waiting, Waits, word_in, next_waiting, Room, Sorted}
use Rattle.mending.proofs.Words.{kept_accepted, kept_refused, dropped_accepted, dropped_refused}

-- ---- a word

-- what the chip says of a word over memories without places
pub judged : (r : Registers) (w : ℕ) {n p : ℕ} {q : Registers} {m : Memories} → outcome n p q m ≡ step_of chip r (word_of w) (memories [] []) → Judged r w n q
unfolding next_in next
judged r w says =
    record {
      refusal = ap (λ (o : Outcome Registers Memories). o.refusal) says ∙ step_number chip r (word_of w) (memories [] []);
      registers = ap (λ (o : Outcome Registers Memories). o.registers) says ∙ step_registers chip r (word_of w) (memories [] []);
    }

-- ---- what is left

-- the first i of a list have come, and these are left
pub record LeftOf {A : Type 0} (xs : List A) (i : ℕ) (left : List A) : Type 0 where
  pub low : i ≤ length xs
  pub same : drop i xs ≡ left

left_as : {A : Type 0} {xs : List A} {i : ℕ} {left other : List A} → left ≡ other → LeftOf xs i left → LeftOf xs i other
left_as e so = record { low = so.low; same = so.same ∙ e }

module _ {A : Type 0} {xs : List A} {i : ℕ} {a : A} {rest : List A} (so : LeftOf xs i (a ∷ rest)) where
  left_below : i < length xs
  left_below = omega (arith, length-drop i xs, ap length so.same)

  -- the first of those that are left is the next
  left_first : (d : A) → get_or xs i d ≡ a
  left_first d = ap (λ (j : ℕ). get_or xs j d) (sym (add-zero i)) ∙ sym (get_or-drop i xs 0 d) ∙ ap (λ (l : List A). get_or l 0 d) so.same

  left_more : LeftOf xs (i + 1) rest
  left_more = record { low = omega (arith, left_below); same = sym (drop-drop 1 i xs) ∙ ap (drop 1) so.same }

-- where none is left, all have come
left_none : {A : Type 0} {xs : List A} {i : ℕ} → LeftOf xs i [] → i ≡ length xs
left_none {xs = xs} {i = i} so = omega (arith, so.low, length-drop i xs, ap length so.same)

-- ---- the words that are left

-- of k words j are kept, and the registers are r
abbrev pub KeptTo : List ℕ → Registers → ℕ → ℕ → Type 0
KeptTo bytes r j k = LeftOf (kept_of bytes 0) j (kept_in 0 r (drop k (unpack_of bytes)))

-- of k words d are dropped
abbrev pub DroppedTo : List ℕ → Registers → ℕ → ℕ → Type 0
DroppedTo bytes r d k = LeftOf (dropped_of bytes 0) d (dropped_in 0 k r (drop k (unpack_of bytes)))

module _ (bytes : List ℕ) where
  -- before the first word, with the registers of a reset, no word is kept yet
  pub kept_start : {r : Registers} → r ≡ reset_of → KeptTo bytes r 0 0
  kept_start e = record { low = omega arith; same = ap (λ (q : Registers). kept_in 0 q (unpack_of bytes)) (sym e) }

  dropped_start : {r : Registers} → r ≡ reset_of → DroppedTo bytes r 0 0
  dropped_start e = record { low = omega arith; same = ap (λ (q : Registers). dropped_in 0 0 q (unpack_of bytes)) (sym e) }

  -- the word w with index k, which gets the number n and leaves the registers q
  module _ {r : Registers} {k k' : ℕ} (below : k < length (unpack_of bytes)) (up : k' ≡ k + 1) {w n : ℕ} {q : Registers} (read : w ≡ word_at bytes k) (says : Judged r w n q) where
    words_left : drop k (unpack_of bytes) ≡ w ∷ drop k' (unpack_of bytes)
    unfolding word_at
    words_left = rw (up, add-one, read) (drop-cons (unpack_of bytes) k 0 below)

    module _ (none : n ≡ 0) where
      -- it is kept
      kept_next : {j : ℕ} → KeptTo bytes r j k → LeftOf (kept_of bytes 0) j (w ∷ kept_in 0 q (drop k' (unpack_of bytes)))
      kept_next =
          left_as
          (ap (kept_in 0 r) words_left ∙ kept_accepted 0 r w (drop k' (unpack_of bytes)) (sym says.refusal ∙ none)
          ∙ ap (λ (p : Registers). w ∷ kept_in 0 p (drop k' (unpack_of bytes))) (sym says.registers))

      -- after an accepted word one word more is kept
      pub kept_more : {j : ℕ} → KeptTo bytes r j k → KeptTo bytes q (j + 1) k'
      kept_more so = left_more (kept_next so)

      -- and not dropped
      dropped_past : {d : ℕ} → DroppedTo bytes r d k → DroppedTo bytes q d k'
      dropped_past =
          left_as
          (ap (dropped_in 0 k r) words_left ∙ dropped_accepted 0 r w (drop k' (unpack_of bytes)) (sym says.refusal ∙ none) k
          ∙ ap₂ (λ (i : ℕ) (p : Registers). dropped_in 0 i p (drop k' (unpack_of bytes))) (sym up) (sym says.registers))

    module _ (some : n ≢ 0) where
      -- it is dropped
      dropped_next : {d : ℕ} → DroppedTo bytes r d k → LeftOf (dropped_of bytes 0) d (dropped k n ∷ dropped_in 0 k' q (drop k' (unpack_of bytes)))
      dropped_next =
          left_as
          (ap (dropped_in 0 k r) words_left ∙ dropped_refused 0 r w (drop k' (unpack_of bytes)) (λ e. some (says.refusal ∙ e)) k
          ∙ ap₂ (λ (number : ℕ) (rest : List Dropped). dropped k number ∷ rest) (sym says.refusal)
          (ap₂ (λ (i : ℕ) (p : Registers). dropped_in 0 i p (drop k' (unpack_of bytes))) (sym up) (sym says.registers)))

      -- and not kept
      pub kept_past : {j : ℕ} → KeptTo bytes r j k → KeptTo bytes q j k'
      kept_past =
          left_as
          (ap (kept_in 0 r) words_left ∙ kept_refused 0 r w (drop k' (unpack_of bytes)) (λ e. some (says.refusal ∙ e))
          ∙ ap (λ (p : Registers). kept_in 0 p (drop k' (unpack_of bytes))) (sym says.registers))

  -- no word is left
  module _ (r : Registers) {k : ℕ} (past : length (unpack_of bytes) ≤ k) where
    -- where no word is left, as many words are kept as the whole recording keeps
    pub kept_end : {j : ℕ} → KeptTo bytes r j k → j ≡ length (kept_of bytes 0)
    unfolding kept_in
    kept_end so = left_none (left_as (ap (kept_in 0 r) (drop_of_length-le (unpack_of bytes) past)) so)

    dropped_end : {d : ℕ} → DroppedTo bytes r d k → d ≡ length (dropped_of bytes 0)
    unfolding dropped_in
    dropped_end so = left_none (left_as (ap (dropped_in 0 k r) (drop_of_length-le (unpack_of bytes) past)) so)

-- ---- what stands

module _ (words : List ℕ) (j : ℕ) (out : List ℕ) where
  -- an even number of words leaves none waiting
  pub put_even : j % 2 ≢ 1 → out ≡ put_waiting words j out
  unfolding put_waiting
  put_even e = rw (ne_eqb _ _ e)

  put_sets : j % 2 ≡ 1 → put_waiting words j out ≡ sets out (5 * (j / 2)) (pack_of words)
  unfolding put_waiting
  put_sets e = rw (eq-eqb _ _ e)

  -- the waiting word is packed behind the pairs
  pub put_odd : j % 2 ≡ 1 → fit 20 words ≡ true → 5 * (j / 2) + (length words * 5 + 1) / 2 ≤ length out
      → (answer : Result ℕ Refusal) {left : List ℕ} → coded_told answer left ≡ packing words (take (length out - 5 * (j / 2)) (drop (5 * (j / 2)) out))
      → take (5 * (j / 2)) out ++ (left ++ drop (length out - 5 * (j / 2)) (drop (5 * (j / 2)) out)) ≡ put_waiting words j out
  unfolding put_waiting over
  put_odd e f room answer {left} says =
      let at = 5 * (j / 2) in
      let whole : take (length out - at) (drop at out) ≡ drop at out = take_all (length out - at) (drop at out) (omega (arith, length-drop at out)) in
      let stored : left ≡ pack_of words ++ drop (length (pack_of words)) (drop at out) =
      (settled {r = answer} {r' = Ok (length (pack_of words))} (says ∙ ap (packing words) whole) (pack_done words (drop at out) f (omega (arith, length-drop at out, length_pack words)) refl refl)).1 in
      let past : drop (length out - at) (drop at out) ≡ [] = drop_of_length-le (drop at out) {i = length out - at} (omega (arith, length-drop at out)) in
      rw (eq-eqb _ _ e)
      (ap₂ (λ (a b : List ℕ). take at out ++ (a ++ b)) stored past
      ∙ ap (λ (l : List ℕ). take at out ++ l) (append-nil (pack_of words ++ drop (length (pack_of words)) (drop at out)) ∙ ap (λ (l : List ℕ). pack_of words ++ l) (drop-drop (length (pack_of words)) at out))
      ∙ sym (append_assoc (take at out) (pack_of words) (drop (at + length (pack_of words)) out))
      ∙ sym (sets-eq (pack_of words) out at (omega (arith, length_pack words))))

-- a word more waits, or is packed with the one that waited
pub waits_next : (waiting : Option ℕ) (j w : ℕ) → Waits waiting j → Waits (next_waiting waiting w) (j + 1)
waits_next None j w even = omega arith
waits_next (Some v) j w odd = omega arith

-- the next of a list is stored
front_set : (d : ℕ) (new old : List ℕ) {out : List ℕ} {v : ℕ} → d < length new → length new ≤ length old → v ≡ get_or new d 0 → out ≡ front d new old
    → set out d v ≡ front (d + 1) new old
front_set d new old {out} {v} h room same e =
    ap (λ (l : List ℕ). set l d v) (e ∙ ap (λ (l : List ℕ). take d new ++ l) (drop-cons old d 0 (omega arith)))
    ∙ set_at (take d new) (get_or old d 0) (drop (suc d) old) v d (length-take-le d new (omega arith))
    ∙ ap (λ (a : ℕ). take d new ++ (a ∷ drop (suc d) old)) same
    ∙ sym (append_assoc (take d new) (get_or new d 0 ∷ []) (drop (suc d) old))
    ∙ ap (λ (l : List ℕ). l ++ drop (suc d) old) (sym (take-suc new d 0 h))
    ∙ ap (λ (i : ℕ). front i new old) (sym (add-one d))

module _ (bytes out₀ indices₀ numbers₀ : List ℕ) where
  -- j words are kept and d dropped; all of them stand, but for the last of an odd number of kept ones, which waits
  pub record SortedTo (out indices numbers : List ℕ) (r : Registers) (waiting j d : ℕ) : Type 0 where
    pub kept : KeptTo bytes r j (j + d)
    pub dropped : DroppedTo bytes r d (j + d)
    pub waits : j % 2 ≡ 1 → waiting ≡ get_or (kept_of bytes 0) (2 * (j / 2)) 0
    pub small : waiting < 1048576
    pub stream : out ≡ front (5 * (j / 2)) (mended_of bytes 0) out₀
    pub places : indices ≡ front d (indices_of (dropped_of bytes 0)) indices₀
    pub reasons : numbers ≡ front d (numbers_of (dropped_of bytes 0)) numbers₀

  -- the word that waits behind one word more: none does behind a pair
  pub sorted_waits : {out indices numbers : List ℕ} {q : Registers} {w d : ℕ} (waiting : Option ℕ) (j : ℕ) → Waits waiting j
      → SortedTo out indices numbers q w (j + 1) d → SortedTo out indices numbers q (word_in (next_waiting waiting w)) (j + 1) d
  sorted_waits None j even so = so
  sorted_waits (Some v) j odd so =
      record {
        kept = so.kept;
        dropped = so.dropped;
        waits = λ e. absurd (omega arith);
        small = omega arith;
        stream = so.stream;
        places = so.places;
        reasons = so.reasons;
      }

  -- before the first word nothing is kept, dropped or waiting, and what was lent is as it was
  pub sorted_start : {r : Registers} → r ≡ reset_of → SortedTo out₀ indices₀ numbers₀ r 0 0 0
  sorted_start e =
      record {
        kept = kept_start bytes e;
        dropped = dropped_start bytes e;
        waits = λ odd. absurd (omega arith);
        small = omega arith;
        stream = refl;
        places = refl;
        reasons = refl;
      }

  module _ (room : Room bytes out₀ indices₀ numbers₀) where
    pack_room : (length (kept_of bytes 0) * 5 + 1) / 2 ≤ length out₀
    pack_room = omega (arith, room.stream, length_pack (kept_of bytes 0))

    module _ {out indices numbers : List ℕ} {r : Registers} {waiting j d : ℕ} (so : SortedTo out indices numbers r waiting j d) where
      module _ (below : j + d < length (unpack_of bytes)) {w n : ℕ} {q : Registers} (read : w ≡ word_at bytes (j + d)) (says : Judged r w n q) where
        module _ (none : n ≡ 0) where
          further : j + 1 + d ≡ j + d + 1
          further = omega arith

          here : get_or (kept_of bytes 0) j 0 ≡ w
          here = left_first (kept_next bytes below further read says none so.kept) 0

          within : j < length (kept_of bytes 0)
          within = left_below (kept_next bytes below further read says none so.kept)

          -- there is room for a pair
          pub pair_room : length out ≡ length out₀ → j % 2 ≡ 1 → 5 * (j / 2) + 5 ≤ length out
          pair_room same odd = omega (arith, pack_room, within)

          -- the next word is kept: it waits, or stands with the one that waited for it
          pub sorted_kept : {out' : List ℕ} → out' ≡ put_waiting (waiting ∷ w ∷ []) j out → SortedTo out' indices numbers q w (j + 1) d
          sorted_kept {out'} put =
              record {
                kept = kept_more bytes below further read says none so.kept;
                dropped = dropped_past bytes below further read says none so.dropped;
                waits = λ odd. let e : 2 * ((j + 1) / 2) ≡ j = omega arith in sym here ∙ ap (λ (i : ℕ). get_or (kept_of bytes 0) i 0) (sym e);
                small = omega (arith, read, word_fits bytes (j + d));
                stream = put ∙ ⊎_elim even odd (parity j);
                places = so.places;
                reasons = so.reasons;
              }
            where
              even : j % 2 ≡ 0 → put_waiting (waiting ∷ w ∷ []) j out ≡ front (5 * ((j + 1) / 2)) (mended_of bytes 0) out₀
              even e =
                  let same : 5 * (j / 2) ≡ 5 * ((j + 1) / 2) = omega arith in
                  sym (put_even (waiting ∷ w ∷ []) j out (λ odd. absurd (omega arith))) ∙ so.stream ∙ ap (λ (i : ℕ). front i (mended_of bytes 0) out₀) same

              odd : j % 2 ≡ 1 → put_waiting (waiting ∷ w ∷ []) j out ≡ front (5 * ((j + 1) / 2)) (mended_of bytes 0) out₀
              odd e =
                  let last : 2 * (j / 2) + 1 ≡ j = omega arith in
                  let up : 5 * (j / 2 + 1) ≡ 5 * ((j + 1) / 2) = omega arith in
                  put_sets (waiting ∷ w ∷ []) j out e
                  ∙ ap₂ (λ (v u : ℕ). sets out (5 * (j / 2)) (pack_of (v ∷ u ∷ []))) (so.waits e) (sym here ∙ ap (λ (i : ℕ). get_or (kept_of bytes 0) i 0) (sym last))
                  ∙ pack_turn (kept_of bytes 0) out₀ out pack_room (j / 2) (omega (arith, within)) so.stream
                  ∙ ap (λ (i : ℕ). front i (mended_of bytes 0) out₀) up

        module _ (some : n ≢ 0) where
          onward : j + (d + 1) ≡ j + d + 1
          onward = omega arith

          upcoming : LeftOf (dropped_of bytes 0) d (dropped (j + d) n ∷ dropped_in 0 (j + (d + 1)) q (drop (j + (d + 1)) (unpack_of bytes)))
          upcoming = dropped_next bytes below onward read says some so.dropped

          -- there is room on the list
          pub list_room : d < length (dropped_of bytes 0)
          list_room = left_below upcoming

          -- the next word is dropped: it is listed
          pub sorted_dropped : {indices' numbers' : List ℕ} → indices' ≡ set indices d (j + d) → numbers' ≡ set numbers d n
              → SortedTo out indices' numbers' q waiting j (d + 1)
          sorted_dropped place reason =
              record {
                kept = kept_past bytes below onward read says some so.kept;
                dropped = left_more upcoming;
                waits = so.waits;
                small = so.small;
                stream = so.stream;
                places = place ∙ store (λ (x : Dropped). x.index) indices₀ room.places refl so.places;
                reasons = reason ∙ store (λ (x : Dropped). x.number) numbers₀ room.reasons refl so.reasons;
              }
            where
              store : (f : Dropped → ℕ) (old : List ℕ) {now : List ℕ} → length (dropped_of bytes 0) ≤ length old → f (dropped 0 0) ≡ 0
                  → now ≡ front d (map f (dropped_of bytes 0)) old → set now d (f (dropped (j + d) n)) ≡ front (d + 1) (map f (dropped_of bytes 0)) old
              store f old big zero e =
                  let size = length-map (dropped_of bytes 0) f in
                  front_set d (map f (dropped_of bytes 0)) old (omega (arith, list_room, size)) (omega (arith, size))
                  (ap f (sym (left_first upcoming (dropped 0 0))) ∙ sym (get_or-map f (dropped_of bytes 0) d (dropped 0 0)) ∙ ap (λ (x : ℕ). get_or (map f (dropped_of bytes 0)) d x) zero)
                  e

      module _ (past : length (unpack_of bytes) ≤ j + d) where
        every : j ≡ length (kept_of bytes 0)
        every = kept_end bytes r past so.kept

        -- there is room for a last word
        pub last_room : length out ≡ length out₀ → j % 2 ≡ 1 → 5 * (j / 2) + 3 ≤ length out
        last_room same odd = omega (arith, pack_room, every)

        -- no word is left: with the last that waits, all stand
        pub sorted_end : {out' : List ℕ} → out' ≡ put_waiting (waiting ∷ []) j out → Sorted bytes out₀ indices₀ numbers₀ out' indices numbers
        sorted_end put =
            record {
              stream = put ∙ ⊎_elim even odd (parity j);
              places = so.places ∙ front_all d _ indices₀ (dropped_end bytes r past so.dropped ∙ sym (length-map (dropped_of bytes 0) (λ (x : Dropped). x.index)));
              reasons = so.reasons ∙ front_all d _ numbers₀ (dropped_end bytes r past so.dropped ∙ sym (length-map (dropped_of bytes 0) (λ (x : Dropped). x.number)));
            }
          where
            even : j % 2 ≡ 0 → put_waiting (waiting ∷ []) j out ≡ over (mended_of bytes 0) out₀
            even e =
                sym (put_even (waiting ∷ []) j out (λ odd. absurd (omega arith))) ∙ so.stream
                ∙ front_all (5 * (j / 2)) (mended_of bytes 0) out₀ (omega (arith, length_pack (kept_of bytes 0), every))

            odd : j % 2 ≡ 1 → put_waiting (waiting ∷ []) j out ≡ over (mended_of bytes 0) out₀
            odd e =
                put_sets (waiting ∷ []) j out e
                ∙ ap (λ (v : ℕ). sets out (5 * (j / 2)) (pack_of (v ∷ []))) (so.waits e)
                ∙ pack_last (kept_of bytes 0) out₀ out pack_room (j / 2) (omega (arith, every)) so.stream
