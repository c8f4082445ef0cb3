-- Reading keeps the buffer's length, and never stores more words than it has room for. Assumes nothing.
use Rattle.std.proofs.Common.{◌≡◌, ℕ, ◌≤◌, eqb, ltb, List, [], ◌∷◌, length, sym, refl, ◌∙◌, subst, arith, length-set, ltb-true}
use Rattle.ground.proofs.Truth.{either}
use Rattle.listing.specs.declared.read.Reader.{Reader}
use Rattle.listing.specs.declared.read.Mood.{Mood}
use Rattle.listing.specs.declared.read.Mood.TheVariants.{Words, Remark, NotWord, NoRoom}
use Rattle.listing.specs.Reading.{Reading, reading, digit_of, is_end, grown, stored, closed, passed, passed_in, ended, in_words, remarked, taking, taken, read_on}

module _ (n : ℕ) where
  -- the buffer has n places, and no more words are stored
  abbrev pub Kept : Reading → Type 0
  Kept s = (s.reader.held ≤ n) × (length s.words ≡ n)

  abbrev Held : Reader → Type 0
  Held r = r.held ≤ n

  grown_held : (r : Reader) (d : ℕ) → Held r → Held (grown r d)
  unfolding grown
  grown_held r d h = either Held (ltb r.digits 5) (λ _. h) (λ _. h)

  passed_held : (r : Reader) (b : ℕ) → Held r → Held (passed r b)
  unfolding passed
  passed_held r b h = either Held (eqb b 35) (λ _. h) (λ _. either Held (eqb b 10) (λ _. h) (λ _. h))

  passed_in_held : (m : Mood) (r : Reader) (b : ℕ) → Held r → Held (passed_in m r b)
  passed_in_held Words r b h = passed_held r b h
  passed_in_held Remark r b h = h
  passed_in_held NotWord r b h = h
  passed_in_held NoRoom r b h = h

  remarked_held : (r : Reader) (b : ℕ) → Held r → Held (remarked r b)
  unfolding remarked
  remarked_held r b h = either Held (eqb b 10) (λ _. h) (λ _. either Held (eqb b 13) (λ _. h) (λ _. h))

  stored_kept : (s : Reading) → Kept s → Kept (stored s)
  unfolding stored
  stored_kept s k =
      either Kept (ltb s.reader.held (length s.words))
      (λ t. (omega (arith, ltb-true s.reader.held (length s.words) t, k.1), length-set s.words s.reader.held s.reader.value ∙ k.1))
      (λ _. k)

  closed_kept : (s : Reading) → Kept s → Kept (closed s)
  unfolding closed
  closed_kept s k = either Kept (eqb s.reader.digits 0) (λ _. k) (λ _. either Kept (eqb s.reader.digits 5) (λ _. stored_kept s k) (λ _. k))

  ended_kept : (s : Reading) (b : ℕ) → Kept s → Kept (ended s b)
  unfolding ended
  ended_kept s b k = (passed_in_held s.reader.mood s.reader b k.0, k.1)

  words_kept : (s : Reading) (b : ℕ) → Kept s → Kept (in_words s b)
  unfolding in_words
  words_kept s b k =
      either Kept (ltb (digit_of b) 16) (λ _. (grown_held s.reader (digit_of b) k.0, k.1))
      (λ _. either Kept (is_end b) (λ _. ended_kept (closed s) b (closed_kept s k)) (λ _. k))

  taking_kept : (m : Mood) (s : Reading) (b : ℕ) → Kept s → Kept (taking m s b)
  taking_kept Words s b k = words_kept s b k
  taking_kept Remark s b k = (remarked_held s.reader b k.0, k.1)
  taking_kept NotWord s b k = k
  taking_kept NoRoom s b k = k

  taken_kept : (s : Reading) (b : ℕ) → Kept s → Kept (taken s b)
  unfolding taken
  taken_kept s b k = taking_kept s.reader.mood s b k

  -- of a whole text
  pub read_kept : (text : List ℕ) (s : Reading) → Kept s → Kept (read_on s text)
  unfolding read_on
  read_kept [] s k = k
  read_kept (b ∷ text) s k = read_kept text (taken s b) (taken_kept s b k)

-- of a call of `read`: what it stores fits, if what was stored before does
pub held_fits : (r a : Reader) (ws ws' text : List ℕ) → reading a ws' ≡ read_on (reading r ws) text → r.held ≤ length ws → a.held ≤ length ws'
held_fits r a ws ws' text e h =
    let k = read_kept (length ws) text (reading r ws) (h, refl) in
    let k' : Kept (length ws) (reading a ws') = subst (Kept (length ws)) (sym e) k in
    omega (arith, k'.0, k'.1)
