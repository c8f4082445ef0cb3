-- `draw::fill_shared` meets its contract: what is offered of the row is what the unit has of it. Assumes nothing.
use Rattle.std.proofs.Common.{ℕ, ◌+◌, ◌-◌, ◌*◌, ◌<◌, List, length, sym, refl, ap, ◌∙◌, subst, arith}
use Rattle.picture.specs.Place.{layout_of, rows_of, mine}
use Rattle.picture.specs.Offer.{Offer}
use Rattle.picture.specs.Picture.{picture, drawn}
use Rattle.picture.specs.Loops.{Shares, until_own, own_offers}
use Rattle.picture.proofs.Fold.{drawn_nil}
use Rattle.picture.proofs.Strides.{few_some, shares_of, until_low, own_some, own_room, share_found, share_none, first_mine}
use Rattle.picture.proofs.draw.fill_shared.Goals as goal

pub share-requires : goal.share-requires
share-requires c =
    (subst (λ (w : ℕ). Shares c.args.pen.frame w) (sym c.ways_of-ways.ensures.0) (shares_of c.args.pen.frame c.requires.3 c.requires.4), c.requires.0, c.requires.1)

pub fill_own-requires : goal.fill_own-requires
fill_own-requires c =
    let a = c.args in
    let w = c.ways_of-ways in
    let own = c.in-Some.ensures in
    let shares = subst (λ (n : ℕ). Shares a.pen.frame n) (sym w.ensures.0) (shares_of a.pen.frame c.requires.3 c.requires.4) in
    let first = until_own w.result a.pen.frame.layout a.s.lo in
    let low = until_low a.pen.frame.layout a.s.lo w.result (few_some w.result shares.few) in
    let all = a.s.hi - a.s.lo in
    let count = own.count ∙ own_some first all w.result shares.few low own.past in
    let room = subst (λ (n : ℕ). first + w.result * n < all + w.result) (sym count) (own_room first all w.result shares.few low) in (
      shares,
      ap (λ (x : ℕ). mine (layout_of a.pen.frame) x) own.x ∙ first_mine a.pen.frame w.result a.s.lo shares,
      omega (arith, room, own.x, c.requires.0, c.requires.1),
      c.requires.2,
    )

pub returns-in-Some : goal.returns-in-Some
returns-in-Some c =
    let a = c.args in
    let w = c.ways_of-ways in
    let own = c.in-Some.ensures in
    let shares = subst (λ (n : ℕ). Shares a.pen.frame n) (sym w.ensures.0) (shares_of a.pen.frame c.requires.3 c.requires.4) in
    let rows = rows_of a.pen.frame (length a.m.now.i.now) (length a.m.now.z.now) in
    let first = until_own w.result a.pen.frame.layout a.s.lo in
    let low = until_low a.pen.frame.layout a.s.lo w.result (few_some w.result shares.few) in (
      (refl, refl),
      c.fill_own.ensures
          ∙ ap (λ (os : List Offer). drawn a.pen os (picture a.m.now.i.now a.m.now.z.now 0))
          (ap (λ (x : ℕ). own_offers a.pen a.kind w.result x c.in-Some.own.count a.s.y c.in-Some.own.i c.in-Some.own.z) own.x
          ∙ share_found a.pen w.result rows a.kind a.s.lo a.s.hi a.s.y a.s.i a.s.z shares c.requires.1 c.requires.2 {first = first} refl
          (own.count ∙ own_some first (a.s.hi - a.s.lo) w.result shares.few low own.past) own.i own.z),
    )

pub returns : goal.returns
returns c =
    let a = c.args in
    let w = c.ways_of-ways in
    let shares = subst (λ (n : ℕ). Shares a.pen.frame n) (sym w.ensures.0) (shares_of a.pen.frame c.requires.3 c.requires.4) in
    let rows = rows_of a.pen.frame (length a.m.now.i.now) (length a.m.now.z.now) in
    let p = picture a.m.now.i.now a.m.now.z.now 0 in
    let low = until_low a.pen.frame.layout a.s.lo w.result (few_some w.result shares.few) in (
      (refl, refl),
      sym
          (ap (λ (os : List Offer). drawn a.pen os p)
          (share_none a.pen w.result rows a.kind a.s.lo a.s.hi a.s.y a.s.i a.s.z shares c.requires.1 c.requires.2 refl low c.in_default.ensures)
          ∙ drawn_nil a.pen p),
    )
