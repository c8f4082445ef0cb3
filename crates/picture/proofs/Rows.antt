-- A run of pixels of one row: what is offered of it, and how its numbers are carried. Assumes nothing.
use Rattle.std.proofs.Common.{◌≡◌, ℕ, zero, suc, ◌+◌, ◌-◌, ◌*◌, ◌/◌, ◌%◌, ◌^◌, ◌<◌, ◌≤◌, min, Bool, true, false, cond, not, ◌&&◌, ◌||◌, eqb, ltb, List, [], get_or, set, sym, refl, ap, ◌∙◌, ap₂, add-zero, add_assoc, mod-eq_of_lt, suc-mul, add-mul, zero-mul, add-one, arith, ltb-false, ltb-true, le-ltb, eqb-true}
use native.Mathlib.Nat.{mod-add-mod, add-mod-mod}
use lib.Bits.{and_zero_r, or_zero_l, and_mask}
use lib.Seq.{set-get_or}
use Rattle.picture.specs.declared.Frame.{Frame}
use Rattle.picture.specs.declared.Pen.{Pen}
use Rattle.picture.specs.declared.Kind.{Kind}
use Rattle.picture.specs.declared.Kind.TheVariants.{Gouraud}
use Rattle.std.proofs.Common.{Ordering, Less, Equal, Greater}
use Rattle.picture.specs.declared.Carried.{Carried}
use Rattle.picture.specs.Place.{layout_of, place_of, mine, in_memory}
use Rattle.picture.specs.Offer.{Offer, offer, lets_through, is_masked, shows}
use Rattle.picture.specs.Picture.{is_deep, compared_of, is_edge, wins, passes, in_planes, new_i, new_z, Picture, picture, step_at, draw_one, drawn}
use Rattle.picture.specs.Draw.{carried_one, shown, seen, carried_to, span_pixel, span_offers, is_plain, nearer_pen}
use Rattle.picture.specs.declared.Stretch.{Stretch}
use Rattle.picture.specs.Loops.{after, Part, Plain, is_nearer, nearer_at}
use Rattle.ground.proofs.Truth.{both}
use Rattle.picture.proofs.Fold.{drawn_nil}
use Rattle.picture.proofs.Spans.{spans_stop, spans_none, spans_alike}

-- ---- one pixel

-- where the pattern lets a pixel through, what an offer does at its place is what is drawn of the pixel
pub shown_drawn : (pen : Pen) (kind : Kind) (x y i z : ℕ) (p q : Picture) → lets_through pen kind x y ≡ true
    → q ≡ step_at pen kind (place_of pen.frame x y) i z p → q ≡ drawn pen (shown pen (offer kind x y i z)) p
unfolding shown drawn draw_one
shown_drawn pen kind x y i z p q h e = rw h e

-- a pixel that the pattern hides leaves the picture as it was
pub shown_left : (pen : Pen) (kind : Kind) (x y i z : ℕ) (p : Picture) → lets_through pen kind x y ≡ false
    → p ≡ drawn pen (shown pen (offer kind x y i z)) p
unfolding shown drawn
shown_left pen kind x y i z p h = rw h

-- all planes store the number whole
pub in_all_planes : (old new : ℕ) → new ≤ 65535 → in_planes 65535 old new ≡ new
unfolding in_planes
in_all_planes old new h = rw (and_zero_r old, or_zero_l) (and_mask new 16 ∙ mod-eq_of_lt (omega arith))

-- a kind that is no edge wins where it is nearer
pub strict_wins : (kind : Kind) (how : Ordering) → is_edge kind ≡ false → wins kind how ≡ is_nearer how
strict_wins kind Less e = refl
strict_wins kind Equal e = e
strict_wins kind Greater e = refl

-- where nothing but a nearer depth decides, an offer of a 16-bit number stores both of its numbers whole if it is nearer, and else nothing
pub step_nearer : (pen : Pen) (kind : Kind) → Plain pen kind → (at i z : ℕ) → i ≤ 65535 → (p : Picture) → step_at pen kind at i z p ≡ nearer_at at i z p
unfolding step_at nearer_at passes new_i new_z
step_nearer pen kind k at i z h p = rw (k.depth, k.deep, strict_wins kind (compared_of z (get_or p.z at 0)) k.strict, k.ienable, k.zenable, k.planes, in_all_planes (get_or p.i at 0) i h)

module _ (at i z : ℕ) (im zm : List ℕ) (n : ℕ) where
  -- such an offer that is nearer stores both of its numbers, and counts one
  pub nearer_pass : is_nearer (compared_of z (get_or zm at 0)) ≡ true → nearer_at at i z (picture im zm n) ≡ picture (set im at i) (set zm at z) (n + 1)
  unfolding nearer_at
  nearer_pass h = rw h

  -- such an offer that is not nearer leaves the picture as it was
  pub nearer_fail : is_nearer (compared_of z (get_or zm at 0)) ≡ false → nearer_at at i z (picture im zm n) ≡ picture im zm n
  unfolding nearer_at
  nearer_fail h = rw h

-- a depth is nearer where it is less
pub nearer_is : (z old : ℕ) (b : Bool) → ltb z old ≡ b → is_nearer (compared_of z old) ≡ b
unfolding compared_of
nearer_is z old true t = rw t
nearer_is z old false t = rw t (go (eqb z old))
  where
    go : (e : Bool) → is_nearer (cond e Equal Greater) ≡ false
    go true = refl
    go false = refl

-- a choice of what is stored, in place of a branch: where the depth is not less, what stands there
module _ (at i z : ℕ) (im zm : List ℕ) (n : ℕ) where
  chosen_at : (b : Bool) → ltb z (get_or zm at 0) ≡ b
      → picture (set im at (cond b i (get_or im at 0))) (set zm at (cond b z (get_or zm at 0))) (cond b (n + 1) n) ≡ nearer_at at i z (picture im zm n)
  chosen_at true t = sym (nearer_pass at i z im zm n (nearer_is z (get_or zm at 0) true t))
  chosen_at false t =
      ap₂ (λ (k l : List ℕ). picture k l n) (set-get_or im at 0) (set-get_or zm at 0) ∙ sym (nearer_fail at i z im zm n (nearer_is z (get_or zm at 0) false t))

  -- storing what is chosen so, and counting so, is one offer of that sort, and counts one at most
  pub chosen_nearer : {vi vz m : ℕ} → vi ≡ cond (ltb z (get_or zm at 0)) i (get_or im at 0) → vz ≡ cond (ltb z (get_or zm at 0)) z (get_or zm at 0)
      → m ≡ cond (ltb z (get_or zm at 0)) (n + 1) n → (picture (set im at vi) (set zm at vz) m ≡ nearer_at at i z (picture im zm n)) × (m ≤ n + 1)
  chosen_nearer {vi} {vz} {m} ei ez em = (rw (ei, ez, em) (chosen_at (ltb z (get_or zm at 0)) refl), rw em (bound (ltb z (get_or zm at 0))))
    where
      bound : (b : Bool) → cond b (n + 1) n ≤ n + 1
      bound true = omega arith
      bound false = omega arith

-- a number that is carried: what it is at the first pixel, and what each pixel adds
abbrev pub carry : ℕ → ℕ → Carried
carry first add = record { first = first; add = add }

-- a test that holds below n, computed
unfoldable pub every : (ℕ → Bool) → ℕ → Bool
every f zero = true
every f (suc n) = every f n && f n

-- where the computed test holds, it holds of each number below n
pub each : (f : ℕ → Bool) (n : ℕ) → every f n ≡ true → (j : ℕ) → j < n → f j ≡ true
unfolding every
each f zero e j h = absurd (omega arith)
each f (suc n) e j h = go (ltb j n) refl (each f n (both (every f n) (f n) e).0 j)
  where
    go : (b : Bool) → ltb j n ≡ b → (j < n → f j ≡ true) → f j ≡ true
    go true t below = below (ltb-true j n t)
    go false t below =
        let same : j ≡ n = omega (arith, ltb-false j n t) in
        ap f same ∙ (both (every f n) (f n) e).1

-- a pattern of all ones shows every pixel
ones_show : (j : ℕ) → j < 16 → eqb (65535 / 2 ^ j % 2) 1 ≡ true
unfolding every
ones_show = each (λ j. eqb (65535 / 2 ^ j % 2) 1) 16 refl

-- so a transparency pattern of all ones shows every pixel
pub shows_all : (pen : Pen) (x y : ℕ) → pen.transparency ≡ 65535 → shows pen x y ≡ true
unfolding shows
shows_all pen x y e = rw e (ones_show (4 * (y % 4) + x % 4) (omega arith))

-- what is tested of a pen and a kind is that nothing but a nearer depth decides
pub plain_of : (pen : Pen) (kind : Kind) → is_plain pen kind ≡ true → Plain pen kind
plain_of pen kind e =
    let f = both _ (eqb pen.planes 65535) e in
    let d = both _ pen.zenable f.0 in
    let c = both _ pen.ienable d.0 in
    let b = both _ pen.depth c.0 in
    let s = both _ (not (is_edge kind)) b.0 in
    let a = both (not (is_masked kind) || eqb pen.transparency 65535) (is_deep kind) s.0 in
    record {
      shows_all = λ x y. go (not (is_masked kind)) (eqb pen.transparency 65535) (shows pen x y) a.0 (λ t. shows_all pen x y (eqb-true _ _ t));
      deep = a.1;
      strict = unset (is_edge kind) s.1;
      depth = b.1;
      ienable = c.1;
      zenable = d.1;
      planes = eqb-true _ _ f.1;
    }
  where
    unset : (b : Bool) → not b ≡ true → b ≡ false
    unset true e = sym e
    unset false e = refl

    go : (p q r : Bool) → p || q ≡ true → (q ≡ true → r ≡ true) → p || r ≡ true
    go true q r e f = refl
    go false q r e f = f e

-- ---- a run

-- inside the memory a pixel is what the pattern lets through of it
pub seen_inside : (pen : Pen) (rows : ℕ) (o : Offer) → in_memory pen.frame rows o.x o.y ≡ true → seen pen rows o ≡ shown pen o
unfolding seen
seen_inside pen rows o h = rw h

-- nothing is seen of a pixel outside the memory
pub seen_outside : (pen : Pen) (rows : ℕ) (o : Offer) → in_memory pen.frame rows o.x o.y ≡ false → seen pen rows o ≡ []
unfolding seen
seen_outside pen rows o h = rw h

-- nothing is seen of a pixel in a column from the line length on
pub seen_right : (pen : Pen) (rows : ℕ) (o : Offer) → pen.frame.line ≤ o.x → seen pen rows o ≡ []
unfolding seen in_memory
seen_right pen rows o h = rw (le-ltb _ _ h)

-- nothing is seen of a pixel in a row that is not in use
pub seen_above : (pen : Pen) (rows : ℕ) (o : Offer) → ltb o.y rows ≡ false → seen pen rows o ≡ []
unfolding seen in_memory
seen_above pen rows o h = go (ltb o.x pen.frame.line)
  where
    go : (b : Bool) → cond (b && ltb o.y rows && mine (layout_of pen.frame) o.x) (shown pen o) [] ≡ []
    go true = rw h
    go false = refl

module _ (pen : Pen) (rows : ℕ) (kind : Kind) (lo y : ℕ) (i z : Carried) where
  -- nothing is seen of a row that is not in use, nor from the line length on
  pub span_above : (hi : ℕ) → ltb y rows ≡ false → span_offers pen rows kind lo hi y i z ≡ []
  unfolding span_offers
  span_above hi h = spans_none _ (hi - lo) (λ j k. seen_above pen rows (span_pixel kind lo y i z j) h)

  -- so a run that goes past the line length offers what it does up to there
  pub span_right : (hi : ℕ) → span_offers pen rows kind lo hi y i z ≡ span_offers pen rows kind lo (min hi pen.frame.line) y i z
  unfolding span_offers
  span_right hi =
      spans_stop _ (min hi pen.frame.line - lo) (hi - lo) (omega arith) (λ j a b. seen_right pen rows (span_pixel kind lo y i z j) (omega arith))

  -- a run that ends where it begins, or before, offers nothing
  pub span_empty : (hi : ℕ) → hi ≤ lo → span_offers pen rows kind lo hi y i z ≡ []
  unfolding span_offers
  span_empty hi h = spans_none _ (hi - lo) (λ j k. absurd (omega arith))

-- so what a memory has of a stretch is offered as the whole is, and of a stretch of which it has nothing nothing is offered
module _ {frame : Frame} (rows : ℕ) (s : Stretch) where
  stopped : (pen : Pen) (kind : Kind) → pen.frame ≡ frame
      → span_offers pen rows kind s.lo s.hi s.y s.i s.z ≡ span_offers pen rows kind s.lo (min s.hi frame.line) s.y s.i s.z
  stopped pen kind e =
      span_right pen rows kind s.lo s.y s.i s.z s.hi
      ∙ ap (λ (f : Frame). span_offers pen rows kind s.lo (min s.hi f.line) s.y s.i s.z) e

  pub part_some : {hi : ℕ} → hi ≡ min s.hi frame.line → s.lo < hi → ltb s.y rows ≡ true
      → Part frame rows s (record { lo = s.lo; hi = hi; y = s.y; i = s.i; z = s.z })
  part_some is some used =
      record {
        some = some;
        low = omega arith;
        used = ltb-true s.y rows used;
        i = refl;
        z = refl;
        same = λ pen kind e. ap (λ (h : ℕ). span_offers pen rows kind s.lo h s.y s.i s.z) is ∙ sym (stopped pen kind e);
      }

  pub part_none : {hi : ℕ} (a b : Bool) → hi ≡ min s.hi frame.line → ltb s.lo hi ≡ a → ltb s.y rows ≡ b → a && b ≡ false
      → (pen : Pen) (kind : Kind) → pen.frame ≡ frame → span_offers pen rows kind s.lo s.hi s.y s.i s.z ≡ []
  part_none {hi} false b is t u none pen kind e =
      stopped pen kind e
      ∙ span_empty pen rows kind s.lo s.y s.i s.z (min s.hi frame.line) (omega (arith, is, ltb-false s.lo hi t))
  part_none true b is t u none pen kind e = span_above pen rows kind s.lo s.y s.i s.z s.hi (u ∙ none)

-- ---- a run of which nothing but a nearer depth decides

-- a carried number has 16 bits
pub carried_low : (c : Carried) (j : ℕ) → carried_to c j ≤ 65535
unfolding carried_to
carried_low c j = omega arith

-- the pen that is such by its making
pub nearer_plain : (frame : Frame) → Plain (nearer_pen frame) Gouraud
nearer_plain frame =
    record { shows_all = λ x y. refl; deep = refl; strict = refl; depth = refl; ienable = refl; zenable = refl; planes = refl }

-- a pixel that the pattern is asked about is one step of that sort at its place
pub shown_nearer : (pen : Pen) (kind : Kind) → Plain pen kind → (x y i z : ℕ) → i ≤ 65535 → (p : Picture)
    → drawn pen (shown pen (offer kind x y i z)) p ≡ nearer_at (place_of pen.frame x y) i z p
shown_nearer pen kind plain x y i z low p =
    sym (shown_drawn pen kind x y i z p _ (plain.shows_all x y) (sym (step_nearer pen kind plain (place_of pen.frame x y) i z low p)))

-- and so is one about which the window is not asked, inside the memory
pub seen_nearer : (pen : Pen) (kind : Kind) → Plain pen kind → (rows x y i z : ℕ) → i ≤ 65535 → (p : Picture)
    → drawn pen (seen pen rows (offer kind x y i z)) p ≡ cond (in_memory pen.frame rows x y) (nearer_at (place_of pen.frame x y) i z p) p
unfolding seen
seen_nearer pen kind plain rows x y i z low p = go (in_memory pen.frame rows x y)
  where
    go : (b : Bool) → drawn pen (cond b (shown pen (offer kind x y i z)) []) p ≡ cond b (nearer_at (place_of pen.frame x y) i z p) p
    go true = shown_nearer pen kind plain x y i z low p
    go false = drawn_nil pen p

-- so a pen of that sort draws what any other of its frame does
pub plain_span : (pen : Pen) (kind : Kind) → is_plain pen kind ≡ true → (rows lo hi y : ℕ) (i z : Carried) (p : Picture)
    → drawn pen (span_offers pen rows kind lo hi y i z) p
    ≡ drawn (nearer_pen pen.frame) (span_offers (nearer_pen pen.frame) rows Gouraud lo hi y i z) p
unfolding span_offers
plain_span pen kind e rows lo hi y i z p =
    spans_alike pen (nearer_pen pen.frame) _ _ (hi - lo)
    (λ j q.
    seen_nearer pen kind (plain_of pen kind e) rows (lo + j) y (carried_to i j) (carried_to z j) (carried_low i j) q
    ∙ sym (seen_nearer (nearer_pen pen.frame) Gouraud (nearer_plain pen.frame) rows (lo + j) y (carried_to i j) (carried_to z j) (carried_low i j) q))
    p

-- ---- a number carried, modulo 2 ^ 64

-- at the first pixel a number of 64 bits is carried as it is
pub carried_start : (c : Carried) → c.first < 2 ^ 64 → c.first ≡ (c.first + 0 * c.add) % 2 ^ 64
carried_start c h = rw (zero-mul, add-zero) (sym (mod-eq_of_lt h))

-- what is carried to pixel j, and what a pixel adds, is what is carried to pixel j + 1
pub carried_next : (k g j r m : ℕ) → m ≡ (k + j * g) % 2 ^ 64 → r ≡ (m + g) % 2 ^ 64 → r ≡ (k + (j + 1) * g) % 2 ^ 64
carried_next k g j r m e h =
    h ∙ ap (λ (a : ℕ). (a + g) % 2 ^ 64) e ∙ mod-add-mod (k + j * g) (2 ^ 64) g
    ∙ ap (λ (a : ℕ). a % 2 ^ 64) (add_assoc k (j * g) g ∙ ap (λ (a : ℕ). k + a) (sym (ap (λ (b : ℕ). b * g) (add-one j) ∙ suc-mul j g)))

-- what is carried to pixel j, without its part, is the number at that pixel
pub carried_at : (c : Carried) (j m : ℕ) → m ≡ (c.first + j * c.add) % 2 ^ 64 → m / carried_one ≡ carried_to c j
unfolding carried_to
carried_at c j m e = ap (λ (a : ℕ). a / carried_one) e

-- so far, and so many pixels on
carried_more : (k g j d m : ℕ) → m ≡ (k + j * g) % 2 ^ 64 → (m + (d * g) % 2 ^ 64) % 2 ^ 64 ≡ (k + (j + d) * g) % 2 ^ 64
carried_more k g j d m e =
    ap (λ (a : ℕ). (a + (d * g) % 2 ^ 64) % 2 ^ 64) e
    ∙ add-mod-mod ((k + j * g) % 2 ^ 64) (d * g) (2 ^ 64)
    ∙ mod-add-mod (k + j * g) (2 ^ 64) (d * g)
    ∙ ap (λ (a : ℕ). a % 2 ^ 64) (add_assoc k (j * g) (d * g) ∙ ap (λ (a : ℕ). k + a) (sym (add-mul j d g)))

-- numbers that are carried on from pixel k
carried_on : (c : Carried) (k m : ℕ) → m ≡ (c.first + k * c.add) % 2 ^ 64 → (j : ℕ) → carried_to (carry m c.add) j ≡ carried_to c (k + j)
unfolding carried_to
carried_on c k m e j =
    ap (λ (n : ℕ). n / carried_one)
    (ap (λ (a : ℕ). (a + j * c.add) % 2 ^ 64) e
    ∙ mod-add-mod (c.first + k * c.add) (2 ^ 64) (j * c.add)
    ∙ ap (λ (a : ℕ). a % 2 ^ 64) (add_assoc c.first (k * c.add) (j * c.add) ∙ ap (λ (a : ℕ). c.first + a) (sym (add-mul k j c.add))))

-- what is carried so many pixels on, at one sum
after_first : (c : Carried) (j : ℕ) → (after c j).first ≡ (c.first + j * c.add) % 2 ^ 64
after_first c j = add-mod-mod c.first (j * c.add) (2 ^ 64)

after_is : (c : Carried) (j : ℕ) → after c j ≡ carry ((c.first + j * c.add) % 2 ^ 64) c.add
after_is c j = ap (λ (a : ℕ). carry a c.add) (after_first c j)

-- none on, a number of 64 bits is as it is
pub after_none : (c : Carried) → c.first < 2 ^ 64 → c ≡ after c 0
after_none c h = ap (λ (a : ℕ). carry a c.add) (carried_start c h) ∙ sym (after_is c 0)

-- so many on, and as many more
pub after_more : (c : Carried) (j d : ℕ) → after (after c j) d ≡ after c (j + d)
after_more c j d =
    ap (λ (a : ℕ). carry a c.add) (carried_more c.first c.add j d (after c j).first (after_first c j)) ∙ sym (after_is c (j + d))

-- what is carried so many on, without its part, is the number there
pub after_at : (c : Carried) (j : ℕ) → (after c j).first / carried_one ≡ carried_to c j
after_at c j = carried_at c j (after c j).first (after_first c j)

-- and so from there on
pub after_to : (c : Carried) (k j : ℕ) → carried_to (after c k) j ≡ carried_to c (k + j)
after_to c k j = carried_on c k (after c k).first (after_first c k) j

-- ---- a turn of the loop over a row

module _ (pen : Pen) (rows : ℕ) (kind : Kind) (lo y : ℕ) (i z : Carried) (j : ℕ) where
  -- a pixel of the row inside the memory, drawn with the numbers that are carried to it, is what is drawn of pixel j of the run
  pub row_turn : (p : Picture) {q : Picture} {iw zw : ℕ} → in_memory pen.frame rows (lo + j) y ≡ true → iw ≡ carried_to i j → zw ≡ carried_to z j
      → q ≡ drawn pen (shown pen (offer kind (lo + j) y iw zw)) p → q ≡ drawn pen (seen pen rows (span_pixel kind lo y i z j)) p
  row_turn p h ei ez e =
      e
      ∙ ap₂ (λ (a b : ℕ). drawn pen (shown pen (offer kind (lo + j) y a b)) p) ei ez
      ∙ ap (λ (os : List Offer). drawn pen os p) (sym (seen_inside pen rows (span_pixel kind lo y i z j) h))
