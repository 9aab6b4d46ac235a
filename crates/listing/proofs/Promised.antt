-- On a sound table the lines written are those of document 01,
-- since there every entry's code is a digit.
use mathlib.Core.Bool.{true, cond}
use mathlib.Core.List.{List, [], ◌∷◌, ◌++◌}
use mathlib.Core.Path.{◌≡◌, refl, ap₂, ◌∙◌}
use Prim.Native.Nat.{ℕ, ◌%◌, ◌≤◌, ◌<◌}
use native.Mathlib.Omega.{arith}
use native.Mathlib.Nat.{zero-add}
use lib.ListN.{length, drop}
use lib.Seq.{sets, sets-eq}
use lib.Dec.{leb}
use borrow.Author.Tests.{leb-true, le-leb}
use Rattle.paper.specs.Record.{entry_code}
use Rattle.paper.specs.Layout.{boxed}
use Rattle.paper.specs.Table.{rooms, rec}
use Rattle.paper.specs.Entry.{Holder, base_list, in_directory, stands}
use Rattle.paper.specs.Listing.{line, line_of, listed, lines}
use Rattle.paper.specs.Sound.{shaped, sound, entry_as_above}
use Rattle.laws.proofs.Tests.{and_left}
use Rattle.laws.proofs.Lists.{Every}
use Rattle.laws.proofs.Sound.{Tested, tested, above_view, every_true}
use Rattle.laws.proofs.Entries.{Stands, stands-true}
use Rattle.laws.proofs.Orders.{every-listed}
use Rattle.listing.specs.declared.Listed.{Listed}
use Rattle.listing.specs.declared.Listed.TheVariants.{Directory, Base}
use Rattle.listing.specs.Shown.{is_listed}
use Rattle.listing.specs.Ordered.{line_shown, lines_shown}

-- ---- codes

line_code : (t : List ℕ) (e : ℕ) → entry_code (rec t e) ≤ 7 → line_shown t e ≡ line_of boxed t e
unfolding line_shown line
line_code t e h = let q : entry_code (rec t e) % 8 ≡ entry_code (rec t e) = omega arith in rw q

lines_code : (t es : List ℕ) → Every (λ e. entry_code (rec t e) ≤ 7) es → lines_shown t es ≡ lines boxed t es
unfolding lines_shown lines
lines_code t [] h = refl
lines_code t (e ∷ es) h = ap₂ ◌++◌ (line_code t e h.0) (lines_code t es h.1)

-- ---- a sound table

-- the holder of what is listed
holder_of : Listed → Holder
holder_of (Directory h) = in_directory h.0
holder_of (Base u) = base_list u

listed-stands : (w : Listed) (r : List ℕ) → is_listed w r ≡ true → Stands (holder_of w) r
unfolding holder_of
listed-stands (Directory h) r e = stands-true (in_directory h.0) r e
listed-stands (Base u) r e = stands-true (base_list u) r (and_left (stands (base_list u) r) _ e)

sound-code : (w : Listed) (t : List ℕ) → Tested t → (i : ℕ) → i < rooms t → is_listed w (rec t i) ≡ true → entry_code (rec t i) ≤ 7
sound-code w t c i l p =
    leb-true _ 7 (and_left _ _ (every_true 2 (entry_as_above boxed) t (above_view t c.above).entry i l (listed-stands w (rec t i) p).kind))

-- on a sound table the lines written are those of document 01
pub sound-listed : (w : Listed) (t : List ℕ) → sound boxed t ≡ true
    → lines_shown t (listed boxed t (is_listed w)) ≡ lines boxed t (listed boxed t (is_listed w))
unfolding sound
sound-listed w t e =
    lines_code t (listed boxed t (is_listed w))
    (every-listed (λ e. entry_code (rec t e) ≤ 7) t (is_listed w) (sound-code w t (tested t (and_left (shaped boxed t) _ e))))

-- bytes that fit, written to the front: "The rest of the buffer is unchanged."
pub sets-front : (s reply : List ℕ) → length s ≤ length reply → sets reply 0 s ≡ s ++ drop (length s) reply
sets-front s reply l = sets-eq s reply 0 (omega arith) ∙ rw zero-add

-- the reply after `write_lines`, where the table has room in the list and the lines fit
pub reply-after : (w : Listed) (t reply : List ℕ) → rooms t ≤ 2048 → sound boxed t ≡ true → length (lines boxed t (listed boxed t (is_listed w))) ≤ length reply
    → cond (leb (rooms t) 2048) (sets reply 0 (lines_shown t (listed boxed t (is_listed w)))) reply
    ≡ lines boxed t (listed boxed t (is_listed w)) ++ drop (length (lines boxed t (listed boxed t (is_listed w)))) reply
reply-after w t reply m e l = rw (le-leb (rooms t) 2048 m, sound-listed w t e) (sets-front (lines boxed t (listed boxed t (is_listed w))) reply l)
