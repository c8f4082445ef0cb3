-- Offers laid end to end: where nothing is offered, and how a loop goes through them. Assumes nothing.
use Rattle.std.proofs.Common.{◌≡◌, ℕ, zero, suc, ◌+◌, ◌-◌, ◌*◌, ◌<◌, ◌≤◌, ◌⊎◌, List, [], ◌++◌, length, sym, refl, ap, ◌∙◌, ap₂, ⊎_elim, append_assoc, append-nil, zero-le, add-zero, add-suc, suc-mul, add-sub_of_le, add-one, arith, length-append}
use Rattle.picture.specs.declared.Pen.{Pen}
use Rattle.picture.specs.Offer.{Offer}
use Rattle.picture.specs.Picture.{Picture, picture, drawn}
use Rattle.picture.specs.Draw.{spans}
use Rattle.picture.proofs.Fold.{drawn_nil, drawn_append, drawn_from, drawn_i, drawn_z, drawn_passed}

-- below 0 there are no offers
pub spans_zero : (f : ℕ → List Offer) → spans f 0 ≡ []
unfolding spans
spans_zero f = refl

-- the offers below n + 1 are those below n, and then those of f n
pub spans_suc : (f : ℕ → List Offer) (n : ℕ) → spans f (suc n) ≡ spans f n ++ f n
unfolding spans
spans_suc f n = refl

-- where f has nothing from lo up to lo + k, the offers end at lo
spans_quiet : (f : ℕ → List Offer) (lo k : ℕ) → ((n : ℕ) → lo ≤ n → n < lo + k → f n ≡ []) → spans f (lo + k) ≡ spans f lo
spans_quiet f lo zero h = rw add-zero
spans_quiet f lo (suc k) h =
    rw (add-suc, spans_suc)
    (ap (λ (os : List Offer). spans f (lo + k) ++ os) (h (lo + k) (omega arith) (omega arith))
    ∙ append-nil (spans f (lo + k))
    ∙ spans_quiet f lo k (λ n a b. h n a (omega arith)))

-- where f has nothing from lo up to and without hi, the offers below hi are those below lo
pub spans_stop : (f : ℕ → List Offer) (lo hi : ℕ) → lo ≤ hi → ((n : ℕ) → lo ≤ n → n < hi → f n ≡ []) → spans f hi ≡ spans f lo
spans_stop f lo hi l h = ap (spans f) (sym (add-sub_of_le l)) ∙ spans_quiet f lo (hi - lo) (λ n a b. h n a (omega arith))

-- where f has nothing below n, there are no offers below n
pub spans_none : (f : ℕ → List Offer) (n : ℕ) → ((k : ℕ) → k < n → f k ≡ []) → spans f n ≡ []
spans_none f n h = spans_stop f 0 n zero-le (λ k a b. h k b) ∙ spans_zero f

-- the same offers at each place
pub spans_same : (f g : ℕ → List Offer) (n : ℕ) → ((k : ℕ) → k < n → f k ≡ g k) → spans f n ≡ spans g n
spans_same f g zero h = spans_zero f ∙ sym (spans_zero g)
spans_same f g (suc n) h = rw (spans_suc, spans_suc) (ap₂ (λ (a b : List Offer). a ++ b) (spans_same f g n (λ k l. h k (omega arith))) (h n (omega arith)))

-- two pens that draw the same at each place draw the same
pub spans_alike : (pen other : Pen) (f g : ℕ → List Offer) (n : ℕ) → ((k : ℕ) (p : Picture) → drawn pen (f k) p ≡ drawn other (g k) p) → (p : Picture)
    → drawn pen (spans f n) p ≡ drawn other (spans g n) p
spans_alike pen other f g zero h p = rw (spans_zero, spans_zero, drawn_nil, drawn_nil)
spans_alike pen other f g (suc n) h p = rw (spans_suc, spans_suc, drawn_append, drawn_append, spans_alike pen other f g n h p) (h n (drawn other (spans g n) p))

-- offers that begin at lo
pub spans_from : (f : ℕ → List Offer) (lo k : ℕ) → spans f (lo + k) ≡ spans f lo ++ spans (λ j. f (lo + j)) k
spans_from f lo zero = rw (add-zero, spans_zero (λ j. f (lo + j))) (sym (append-nil (spans f lo)))
spans_from f lo (suc k) =
    rw (add-suc, spans_suc f, spans_suc (λ j. f (lo + j)))
    (ap (λ (os : List Offer). os ++ f (lo + k)) (spans_from f lo k) ∙ append_assoc (spans f lo) (spans (λ j. f (lo + j)) k) (f (lo + k)))

-- of a row of n, only those from lo up to and without hi offer anything
pub spans_part : (f : ℕ → List Offer) (lo hi n : ℕ) → lo ≤ hi → hi ≤ n → ((k : ℕ) → k < lo → f k ≡ []) → ((k : ℕ) → hi ≤ k → k < n → f k ≡ [])
    → spans f n ≡ spans (λ j. f (lo + j)) (hi - lo)
spans_part f lo hi n l h a b =
    spans_stop f hi n h b
    ∙ ap (spans f) (sym (add-sub_of_le l))
    ∙ spans_from f lo (hi - lo)
    ∙ ap (λ (os : List Offer). os ++ spans (λ j. f (lo + j)) (hi - lo)) (spans_none f lo a)

-- where f has nothing but at some places, and these are counted, its offers are those that g has one after the other
pub spans_some : (f g : ℕ → List Offer) (count : ℕ → ℕ) (n : ℕ) → count 0 ≡ 0
    → ((k : ℕ) → k < n → ((f k ≡ []) × (count (k + 1) ≡ count k)) ⊎ ((f k ≡ g (count k)) × (count (k + 1) ≡ count k + 1)))
    → spans f n ≡ spans g (count n)
spans_some f g count zero start turn = rw (start) (spans_zero f ∙ sym (spans_zero g))
spans_some f g count (suc n) start turn =
    let rest = spans_some f g count n start (λ k l. turn k (omega (arith, l))) in
    ⊎_elim
    (λ t.
    spans_suc f n ∙ ap₂ (λ (a b : List Offer). a ++ b) rest t.0 ∙ append-nil (spans g (count n)) ∙ ap (spans g) (sym t.1 ∙ ap count (add-one n)))
    (λ t.
    spans_suc f n ∙ ap₂ (λ (a b : List Offer). a ++ b) rest t.0 ∙ sym (spans_suc g (count n)) ∙ ap (spans g) (sym (ap count (sym (add-one n)) ∙ t.1 ∙ add-one (count n))))
    (turn n (omega arith))

-- no more than m at each place
pub spans_length : (f : ℕ → List Offer) (m n : ℕ) → ((k : ℕ) → length (f k) ≤ m) → length (spans f n) ≤ n * m
spans_length f m zero h = rw spans_zero (omega arith)
spans_length f m (suc n) h = rw (spans_suc, length-append, suc-mul) (omega (arith, spans_length f m n h, h n))

-- so no more than n times m of them pass
pub spans_counts : (pen : Pen) (f : ℕ → List Offer) (m n : ℕ) (p : Picture) → ((k : ℕ) → length (f k) ≤ m) → (drawn pen (spans f n) p).passed ≤ p.passed + n * m
spans_counts pen f m n p h = omega (arith, drawn_passed pen (spans f n) p, spans_length f m n h)

-- ---- a loop that has drawn the offers of f below x, and counted n of them

-- the memories and the count are what the offers of f below x make of the memories at the start, counted from 0
pub record Reached (pen : Pen) (f : ℕ → List Offer) (i₀ z₀ i z : List ℕ) (n x : ℕ) : Type 0 where
  pub so : picture i z n ≡ drawn pen (spans f x) (picture i₀ z₀ 0)

module _ {pen : Pen} {f : ℕ → List Offer} {i₀ z₀ : List ℕ} {x : ℕ} where
  -- where f has nothing below x, a loop may start at x with nothing counted
  pub reached_start : ((k : ℕ) → k < x → f k ≡ []) → Reached pen f i₀ z₀ i₀ z₀ 0 x
  reached_start h = record { so = rw (spans_none f x h) (sym (drawn_nil pen _)) }

  -- one more: the count carried through, or counted from 0 and added
  pub reached_more : {i z j w : List ℕ} {n m : ℕ} → Reached pen f i₀ z₀ i z n x → picture j w m ≡ drawn pen (f x) (picture i z n)
      → Reached pen f i₀ z₀ j w m (x + 1)
  reached_more r h = record { so = rw (add-one, spans_suc, drawn_append, ← r.so) h }

  -- here the offers at x are counted from 0, and their count is added to the one so far
  pub reached_add : {i z j w : List ℕ} {n m : ℕ} → Reached pen f i₀ z₀ i z n x → picture j w m ≡ drawn pen (f x) (picture i z 0)
      → Reached pen f i₀ z₀ j w (n + m) (x + 1)
  reached_add {i} {z} {j} {w} {n} {m} r h = reached_more r (ap (λ (p : Picture). picture p.i p.z (n + p.passed)) h ∙ sym (drawn_from pen (f x) i z n))

  -- where f has nothing from x up to and without the end, all offers below the end are drawn
  pub reached_end : {i z : List ℕ} {n : ℕ} (end : ℕ) → Reached pen f i₀ z₀ i z n x → x ≤ end → ((k : ℕ) → x ≤ k → k < end → f k ≡ [])
      → picture i z n ≡ drawn pen (spans f end) (picture i₀ z₀ 0)
  reached_end end r h k = rw (spans_stop f x end h k) r.so

  -- a loop keeps the length of I
  pub reached_i : {i z : List ℕ} {n : ℕ} → Reached pen f i₀ z₀ i z n x → length i ≡ length i₀
  reached_i r = ap (λ (p : Picture). length p.i) r.so ∙ drawn_i pen (spans f x) _

  -- a loop keeps the length of Z
  pub reached_z : {i z : List ℕ} {n : ℕ} → Reached pen f i₀ z₀ i z n x → length z ≡ length z₀
  reached_z r = ap (λ (p : Picture). length p.z) r.so ∙ drawn_z pen (spans f x) _

  -- the count is bounded by what was offered
  pub reached_count : {i z : List ℕ} {n : ℕ} (m : ℕ) → Reached pen f i₀ z₀ i z n x → ((k : ℕ) → length (f k) ≤ m) → n ≤ x * m
  reached_count m r h = omega (arith, ap (λ (p : Picture). p.passed) r.so, spans_counts pen f m x (picture i₀ z₀ 0) h)
