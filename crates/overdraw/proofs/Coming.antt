-- A report that has come through some recordings, and one more: lines behind lines, and sums of sums. Assumes nothing.
use mathlib.Core.Path.{◌≡◌, refl, sym, ap, ◌∙◌, subst}
use mathlib.Core.Bool.{true, false}
use mathlib.Core.List.{List, [], ◌∷◌, ◌++◌, map, append_assoc, append-nil}
use Prim.Native.Nat.{ℕ, suc, ◌+◌, ◌*◌, ◌≤◌, ◌<◌}
use native.Mathlib.Nat.{add-zero, zero-add}
use native.Mathlib.Omega.{arith}
use lib.ListN.{length, length-append}
use Rattle.report.specs.Calls.{Adds, Room}
use Rattle.report.specs.declared.page.Page.{Page}
use Rattle.report.proofs.Putting.{add_after, room_after, put_over}
use Rattle.report.proofs.Calls.{stands}
use Rattle.tally.specs.declared.Tally.{Tally}
use Rattle.tally.specs.Tally.{no_tally, total_of, added, kept, EachWithin}
use Rattle.tally.specs.Overdraw.{Entered, entry_of, tally_of, tallies_of}
use Rattle.tally.proofs.Adding.{each_more, added_each, kept_same, total_more}
use Rattle.tally.proofs.Overdraw.{stream_each, streams_small}
use Rattle.overdraw.specs.declared.page.Reached.{Reached}
use Rattle.overdraw.specs.Text.{name_of, total_name, heading, tally_lines, entry_lines}
use Rattle.overdraw.specs.Report.{lines_from, part_of, report_of, Come, Ready, More, Printed}
use Rattle.overdraw.proofs.Lines.{length_heading, length_tally, length_entry}

-- ---- one recording more

lines_more : (k : ℕ) (streams : List (List ℕ)) (bytes : List ℕ)
    → lines_from k (streams ++ (bytes ∷ [])) ≡ lines_from k streams ++ entry_lines (name_of (k + length streams)) (entry_of bytes)
unfolding lines_from
lines_more k [] bytes =
    append-nil (entry_lines (name_of k) (entry_of bytes)) ∙ ap (λ (n : ℕ). entry_lines (name_of n) (entry_of bytes)) (sym (add-zero k))
lines_more k (first ∷ streams) bytes =
    let next : suc k + length streams ≡ k + length (first ∷ streams) = omega arith in
    let one = entry_lines (name_of k) (entry_of first) in
    ap (λ (l : List ℕ). one ++ l) (lines_more (suc k) streams bytes)
    ∙ sym (append_assoc one (lines_from (suc k) streams) (entry_lines (name_of (suc k + length streams)) (entry_of bytes)))
    ∙ ap (λ (n : ℕ). one ++ lines_from (suc k) streams ++ entry_lines (name_of n) (entry_of bytes)) next

part_more : (streams : List (List ℕ)) (bytes : List ℕ) → part_of (streams ++ (bytes ∷ [])) ≡ part_of streams ++ entry_lines (name_of (length streams)) (entry_of bytes)
unfolding part_of
part_more streams bytes =
    ap (λ (l : List ℕ). heading ++ l) (lines_more 0 streams bytes ∙ ap (λ (n : ℕ). lines_from 0 streams ++ entry_lines (name_of n) (entry_of bytes)) (zero-add (length streams)))
    ∙ sym (append_assoc heading (lines_from 0 streams) (entry_lines (name_of (length streams)) (entry_of bytes)))

map_more : (streams : List (List ℕ)) (bytes : List ℕ) → map tally_of (streams ++ (bytes ∷ [])) ≡ map tally_of streams ++ (tally_of bytes ∷ [])
map_more [] bytes = refl
map_more (first ∷ streams) bytes = ap (λ (l : List Tally). tally_of first ∷ l) (map_more streams bytes)

-- the total with it is the sum
pub tallies_more : (streams : List (List ℕ)) (bytes : List ℕ) → tallies_of (streams ++ (bytes ∷ [])) ≡ added (tallies_of streams) (tally_of bytes)
tallies_more streams bytes = ap total_of (map_more streams bytes) ∙ total_more (map tally_of streams) (tally_of bytes)

-- ---- room

length_lines : (k : ℕ) (streams : List (List ℕ)) → length (lines_from k streams) ≤ length streams * 418
unfolding lines_from
length_lines k [] = omega arith
length_lines k (bytes ∷ streams) =
    omega (
      arith,
      length-append (entry_lines (name_of k) (entry_of bytes)) (lines_from (suc k) streams),
      length_entry (name_of k) (entry_of bytes),
      length_lines (suc k) streams,
    )

length_part : (streams : List (List ℕ)) → length (part_of streams) ≤ length streams * 418 + 79
unfolding part_of
length_part streams = omega (arith, length-append heading (lines_from 0 streams), length_heading, length_lines 0 streams)

-- ---- how far it has come

-- with the heading alone it has come through no recording
pub come_none : {old new : Page} {r : Reached} → old.at ≡ 0 → 418474 ≤ length old.out.now → Adds heading old new → r.files ≡ 0 → r.total ≡ no_tally → Come old new r
unfolding part_of lines_from total_of
come_none {old} {new} front long p none sums =
    record { streams = []; files = none; few = omega (arith, none); front = front; long = long; text = subst (λ (t : List ℕ). Adds t old new) (sym (append-nil heading)) p; total = sums }

-- one more, from its parts
pub one_more : (r : Reached) (bytes : List ℕ) {room old new : Page} {name : List ℕ} {e : Entered} {sum : Tally} → Ready room r → name ≡ name_of r.files
    → e ≡ entry_of bytes → Adds (entry_lines name e) old new → sum ≡ kept (added r.total e.tally)
    → More r bytes old new (record { files = r.files + 1; total = sum })
one_more r bytes {room} {old} {new} {name} {e} {sum} ready named is put sums =
    record {
      files = refl;
      text =
          subst (λ (x : Entered). Adds (entry_lines (name_of r.files) x) old new) is
          (subst (λ (x : List ℕ). Adds (entry_lines x e) old new) named put);
      total =
          sums
          ∙ ap (λ (x : Entered). kept (added r.total x.tally)) is
          ∙ kept_same (3276000 + 3276) (added r.total (tally_of bytes)) (omega arith) (added_each 3276000 3276 r.total (tally_of bytes) ready.small (stream_each bytes));
    }

module _ {old mid : Page} {r : Reached} (so : Come old mid r) where
  small : EachWithin 3276000 r.total
  small =
      subst (EachWithin 3276000) (sym so.total)
      (each_more (length so.streams * 3276) 3276000 (tallies_of so.streams) (omega (arith, so.few, so.files)) (streams_small so.streams))

  -- there is room for another
  pub come_ready : r.files < 1000 → Ready mid r
  come_ready few =
      record {
        few = few;
        fits = room_after 418 so.text (omega (arith, so.front, so.long, few, so.files, length_part so.streams));
        small = small;
      }

  -- and with it, the report has come through one more
  pub come_more : {bytes : List ℕ} {new : Page} {q : Reached} → r.files < 1000 → More r bytes mid new q → Come old new q
  come_more {bytes} {new} {q} few more =
      record {
        streams = so.streams ++ (bytes ∷ []);
        files = omega (arith, more.files, so.files, length-append so.streams (bytes ∷ []));
        few = omega (arith, few, more.files);
        front = so.front;
        long = so.long;
        text =
            subst (λ (t : List ℕ). Adds t old new) (sym (part_more so.streams bytes))
            (add_after so.text (subst (λ (n : ℕ). Adds (entry_lines (name_of n) (entry_of bytes)) mid new) so.files more.text));
        total = more.total ∙ ap (λ (t : Tally). added t (tally_of bytes)) so.total ∙ sym (tallies_more so.streams bytes);
      }

  -- there is room for the total
  pub come_room : EachWithin 3276000 r.total × Room 395 mid
  come_room = (small, room_after 395 so.text (omega (arith, so.front, so.long, so.few, so.files, length_part so.streams)))

  length_report : length (report_of so.streams) ≡ length (part_of so.streams) + 395
  unfolding report_of
  length_report =
      omega (arith, length-append (part_of so.streams) (tally_lines total_name (tallies_of so.streams)), length_tally total_name (tallies_of so.streams))

  -- with it the report is whole
  pub come_whole : {new : Page} {first last : List ℕ} → old.out.now ≡ first → Adds (tally_lines total_name r.total) mid new → new.out.now ≡ last → Printed first last new.at
  unfolding report_of
  come_whole {new} e p g =
      let added : Adds (report_of so.streams) old new =
      add_after so.text (subst (λ (t : Tally). Adds (tally_lines total_name t) mid new) so.total p) in
      let all = put_over (omega (arith, ap (length {A = ℕ}) e, so.long, so.few, length_report, so.files, length_part so.streams)) (rw (e, so.front, g) at added.put) in
      record { streams = so.streams; whole = true; text = stands all.0 all.1 }

  -- or it ends here
  pub come_part : {first last : List ℕ} → old.out.now ≡ first → mid.out.now ≡ last → Printed first last mid.at
  come_part e g =
      let all = put_over (omega (arith, ap (length {A = ℕ}) e, so.long, so.few, so.files, length_part so.streams)) (rw (e, so.front, g) at so.text.put) in
      record { streams = so.streams; whole = false; text = stands all.0 all.1 }
