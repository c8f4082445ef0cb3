-- A result written over the front of a list, some places at a time, as both loops do. Assumes nothing.
use mathlib.Core.Path.{◌≡◌, refl, sym, ap, ap₂, ◌∙◌}
use mathlib.Core.List.{List, [], ◌∷◌, ◌++◌}
use Prim.Native.Nat.{ℕ, suc, ◌+◌, ◌*◌, ◌/◌, ◌%◌, ◌≤◌}
use native.Mathlib.Nat.{add-zero, add-suc, suc-add}
use native.Mathlib.Numerals.{add-one}
use native.Mathlib.Omega.{arith}
use lib.ListN.{length, get_or, take, drop, set, length-append, length-drop}
use lib.Seq.{sets, sets-eq, take_all, take_at, take-suc, take-length, take-add, drop-cons, drop-drop, drop-append-add, length-take-le, get_or-drop}
use Rattle.stream.specs.Format.{unpack_of, pack_of, word_at}
use Rattle.stream.specs.Calls.{over}
use Rattle.stream.proofs.Stream.{length_unpack, length_pack, drop_unpack, drop_pack, pack_none, pack_two, pack_end}

-- ---- stores, as the code makes them

-- values stored at k + i, k + i + 1, ..: at literals it computes to the code's stores
abbrev pub stored : List ℕ → ℕ → ℕ → List ℕ → List ℕ
stored l k i [] = l
stored l k i (a ∷ vs) = stored (set l (k + i) a) k (suc i) vs

stored_sets : (vs l : List ℕ) (k i : ℕ) → stored l k i vs ≡ sets l (k + i) vs
stored_sets [] l k i = refl
stored_sets (a ∷ vs) l k i = stored_sets vs (set l (k + i) a) k (suc i) ∙ ap (λ (j : ℕ). sets (set l (k + i) a) j vs) (add-suc k i)

-- stores at k, k + 1, .. are a run of stores from k on
pub stores : (l : List ℕ) (k a : ℕ) (vs : List ℕ) → stored (set l k a) k 1 vs ≡ sets l k (a ∷ vs)
stores l k a vs = stored_sets vs (set l k a) k 1 ∙ ap (λ (j : ℕ). sets (set l k a) j vs) (add-one k)

-- a run of stores behind a run of stores is one run
pub sets_append : (vs us l : List ℕ) (k : ℕ) → sets (sets l k vs) (k + length vs) us ≡ sets l k (vs ++ us)
sets_append [] us l k = ap (λ (j : ℕ). sets l j us) (add-zero k)
sets_append (a ∷ vs) us l k = ap (λ (j : ℕ). sets (sets l k (a ∷ vs)) j us) (add-suc k (length vs) ∙ sym (suc-add k (length vs))) ∙ sets_append vs us (set l k a) (suc k)

-- stores behind a run of stores lengthen it
pub stores_behind : (vs us l : List ℕ) (k : ℕ) → stored (sets l k vs) k (length vs) us ≡ sets l k (vs ++ us)
stores_behind vs us l k = stored_sets us (sets l k vs) k (length vs) ∙ sets_append vs us l k

-- ---- the front that is written so far

-- the first n of the result stand
abbrev pub front : ℕ → List ℕ → List ℕ → List ℕ
front n new old = take n new ++ drop n old

-- the first n of the result stand where they are all that was written over the front
pub front_part : (n : ℕ) (new old : List ℕ) → n ≤ length new → front n new old ≡ over (take n new) old
unfolding over
front_part n new old h = ap (λ (i : ℕ). take n new ++ drop i old) (sym (length-take-le n new h))

-- where all of the result stands, it stands over the front, and the places beyond are untouched
pub front_all : (n : ℕ) (new old : List ℕ) → n ≡ length new → front n new old ≡ over new old
unfolding over
front_all n new old e = rw (e, take-length new)

length_front : (n : ℕ) (new old : List ℕ) → n ≤ length new → n ≤ length old → length (front n new old) ≡ length old
length_front n new old h k = simp (length-append, length-drop, length-take-le n new h) (omega arith)

-- the next m are stored
front_more : (m n : ℕ) (new old : List ℕ) → n + m ≤ length new → n + m ≤ length old
    → sets (front n new old) n (take m (drop n new)) ≡ front (n + m) new old
front_more m n new old h k =
    let l : length (take n new) ≡ n = length-take-le n new (omega arith) in
    let q : length (take m (drop n new)) ≡ m = length-take-le m (drop n new) (omega (arith, length-drop n new)) in
    sets-eq (take m (drop n new)) (front n new old) n (omega (arith, length_front n new old (omega arith) (omega arith)))
    ∙ ap₂ (λ (a b : List ℕ). a ++ take m (drop n new) ++ b)
    (take_at (take n new) (drop n old) n l)
    (ap₂ (λ (i j : ℕ). drop (i + j) (front n new old)) (sym l) q
    ∙ drop-append-add (take n new) (drop n old) m
    ∙ drop-drop m n old)
    ∙ ap (λ (a : List ℕ). a ++ drop (n + m) old) (sym (take-add n m new))

-- a turn of a loop: what stands is the front up to n, and what comes next is stored there
turn : (m n n' : ℕ) (new old out vs : List ℕ) → n + m ≡ n' → n' ≤ length new → n' ≤ length old → vs ≡ take m (drop n new)
    → out ≡ front n new old → sets out n vs ≡ front n' new old
turn m n n' new old out vs e h k p q =
    ap₂ (λ (o v : List ℕ). sets o n v) q p ∙ front_more m n new old (omega arith) (omega arith) ∙ ap (λ (i : ℕ). front i new old) e

-- ---- unpacking, by five bytes and two words

-- the first word of a stream, and the first two
pub one_word : (s : List ℕ) → 3 ≤ length s → take 1 (unpack_of s) ≡ word_at s 0 ∷ []
unfolding word_at
one_word s h = take-suc (unpack_of s) 0 0 (omega (arith, length_unpack s))

-- the first two words of a stream of at least five bytes are those at places 0 and 1
pub two_words : (s : List ℕ) → 5 ≤ length s → take 2 (unpack_of s) ≡ word_at s 0 ∷ word_at s 1 ∷ []
unfolding word_at
two_words s h = take-suc (unpack_of s) 1 0 (omega (arith, length_unpack s)) ∙ ap (λ (l : List ℕ). l ++ (word_at s 1 ∷ [])) (one_word s (omega arith))

module _ (s old out : List ℕ) (room : length s * 2 / 5 ≤ length old) where
  -- where the words of j groups of five bytes stand, storing the two words of the next group makes those of j + 1 groups stand
  pub unpack_turn : (j : ℕ) → 5 * j + 5 ≤ length s → out ≡ front (2 * j) (unpack_of s) old
      → sets out (2 * j) (take 2 (unpack_of (drop (5 * j) s))) ≡ front (2 * (j + 1)) (unpack_of s) old
  unpack_turn j h q =
      turn 2 (2 * j) (2 * (j + 1)) (unpack_of s) old out (take 2 (unpack_of (drop (5 * j) s)))
      (omega arith) (omega (arith, length_unpack s)) (omega arith) (ap (take 2) (sym (drop_unpack j s))) q

  -- where the words of all groups of five bytes stand, storing the word of three or four bytes behind them makes the whole result stand
  pub unpack_last : (j : ℕ) → j ≡ length s / 5 → 3 ≤ length s % 5 → out ≡ front (2 * j) (unpack_of s) old
      → sets out (2 * j) (take 1 (unpack_of (drop (5 * j) s))) ≡ over (unpack_of s) old
  unpack_last j e h q =
      turn 1 (2 * j) (2 * j + 1) (unpack_of s) old out (take 1 (unpack_of (drop (5 * j) s)))
      refl (omega (arith, length_unpack s)) (omega arith) (ap (take 1) (sym (drop_unpack j s))) q
      ∙ front_all (2 * j + 1) (unpack_of s) old (omega (arith, length_unpack s))

-- ---- packing, by four words and ten bytes, and by two words and five bytes

-- the bytes of a pair are five of the stream's
take_pair : (v w : ℕ) (ws : List ℕ) → take 5 (pack_of (v ∷ w ∷ ws)) ≡ pack_of (v ∷ w ∷ [])
take_pair v w ws = ap (take 5) (pack_two v w ws) ∙ sym (pack_two v w [] ∙ rw pack_none)

pair_bytes : (ws : List ℕ) (j : ℕ) → 2 * j + 2 ≤ length ws
    → pack_of (get_or ws (2 * j) 0 ∷ get_or ws (2 * j + 1) 0 ∷ []) ≡ take 5 (drop (5 * j) (pack_of ws))
pair_bytes ws j h =
    let v = get_or ws (2 * j) 0 in
    let w = get_or ws (2 * j + 1) 0 in
    let split : drop (2 * j) ws ≡ v ∷ w ∷ drop (suc (2 * j + 1)) ws =
    drop-cons ws (2 * j) 0 (omega arith) ∙ ap (λ (l : List ℕ). v ∷ l) (rw (← add-one) (drop-cons ws (2 * j + 1) 0 (omega arith))) in
    sym (ap (take 5) (drop_pack j ws (omega arith) ∙ ap pack_of split) ∙ take_pair v w (drop (suc (2 * j + 1)) ws))

-- the bytes of the first four words are ten of the stream's
first_group : (s : List ℕ) → 4 ≤ length s → take 10 (pack_of s) ≡ pack_of (get_or s 0 0 ∷ get_or s 1 0 ∷ get_or s 2 0 ∷ get_or s 3 0 ∷ [])
first_group [] h = absurd (omega arith)
first_group (a ∷ []) h = absurd (omega arith)
first_group (a ∷ b ∷ []) h = absurd (omega arith)
first_group (a ∷ b ∷ c ∷ []) h = absurd (omega arith)
first_group (a ∷ b ∷ c ∷ d ∷ s) h = rw (pack_two a b (c ∷ d ∷ s), take_pair c d s) (sym (pack_two a b (c ∷ d ∷ [])))

-- the same from place 4 j on
group_bytes : (ws : List ℕ) (j : ℕ) → 4 * j + 4 ≤ length ws
    → pack_of (get_or ws (4 * j) 0 ∷ get_or ws (4 * j + 1) 0 ∷ get_or ws (4 * j + 2) 0 ∷ get_or ws (4 * j + 3) 0 ∷ []) ≡ take 10 (drop (10 * j) (pack_of ws))
group_bytes ws j h =
    let i = 4 * j in
    let place : 10 * j ≡ 5 * (2 * j) = omega arith in
    let index : 2 * (2 * j) ≡ 4 * j = omega arith in
    sym (ap (λ (n : ℕ). take 10 (drop n (pack_of ws))) place
    ∙ ap (take 10) (drop_pack (2 * j) ws (omega arith) ∙ ap (λ (n : ℕ). pack_of (drop n ws)) index)
    ∙ first_group (drop i ws) (omega (arith, length-drop i ws))
    ∙ rw (get_or-drop i ws 0 0, get_or-drop i ws 1 0, get_or-drop i ws 2 0, get_or-drop i ws 3 0, add-zero i))

-- and those of a last word its last three
last_bytes : (ws : List ℕ) (j : ℕ) → 2 * j + 1 ≡ length ws → pack_of (get_or ws (2 * j) 0 ∷ []) ≡ take 3 (drop (5 * j) (pack_of ws))
last_bytes ws j h =
    let v = get_or ws (2 * j) 0 in
    sym (ap (take 3) (pack_end ws j h) ∙ take_all 3 (pack_of (v ∷ [])) (omega (arith, length_pack (v ∷ []))))

module _ (ws old out : List ℕ) (room : (length ws * 5 + 1) / 2 ≤ length old) where
  -- where the bytes of j pairs of words stand, storing the five bytes of the next pair makes those of j + 1 pairs stand
  pub pack_turn : (j : ℕ) → 2 * j + 2 ≤ length ws → out ≡ front (5 * j) (pack_of ws) old
      → sets out (5 * j) (pack_of (get_or ws (2 * j) 0 ∷ get_or ws (2 * j + 1) 0 ∷ [])) ≡ front (5 * (j + 1)) (pack_of ws) old
  pack_turn j h q =
      turn 5 (5 * j) (5 * (j + 1)) (pack_of ws) old out (pack_of (get_or ws (2 * j) 0 ∷ get_or ws (2 * j + 1) 0 ∷ []))
      (omega arith) (omega (arith, length_pack ws)) (omega arith) (pair_bytes ws j h) q

  -- the same by four words and ten bytes
  pub group_turn : (j : ℕ) → 4 * j + 4 ≤ length ws → out ≡ front (10 * j) (pack_of ws) old
      → sets out (10 * j) (pack_of (get_or ws (4 * j) 0 ∷ get_or ws (4 * j + 1) 0 ∷ get_or ws (4 * j + 2) 0 ∷ get_or ws (4 * j + 3) 0 ∷ []))
      ≡ front (10 * (j + 1)) (pack_of ws) old
  group_turn j h q =
      turn 10 (10 * j) (10 * (j + 1)) (pack_of ws) old out (pack_of (get_or ws (4 * j) 0 ∷ get_or ws (4 * j + 1) 0 ∷ get_or ws (4 * j + 2) 0 ∷ get_or ws (4 * j + 3) 0 ∷ []))
      (omega arith) (omega (arith, length_pack ws)) (omega arith) (group_bytes ws j h) q

  -- where the bytes of all pairs stand, storing the three bytes of an odd last word makes the whole result stand
  pub pack_last : (j : ℕ) → 2 * j + 1 ≡ length ws → out ≡ front (5 * j) (pack_of ws) old
      → sets out (5 * j) (pack_of (get_or ws (2 * j) 0 ∷ [])) ≡ over (pack_of ws) old
  pack_last j e q =
      turn 3 (5 * j) (5 * j + 3) (pack_of ws) old out (pack_of (get_or ws (2 * j) 0 ∷ []))
      refl (omega (arith, length_pack ws)) (omega arith) (last_bytes ws j e) q
      ∙ front_all (5 * j + 3) (pack_of ws) old (omega (arith, length_pack ws))
