-- RDS and LST at the end of their walks, by the tests that the code makes: 13, 15, and then what is written.
-- Both are one reading, over the file that is asked for and what is written of it.
use mathlib.Core.Bool.{true, false, not}
use mathlib.Core.List.{List, []}
use mathlib.Core.Logic.{by_cases}
use mathlib.Core.Path.{◌≡◌, sym, ap, ◌∙◌}
use Prim.Native.Nat.{ℕ, ◌-◌, ◌≤◌, ◌<◌, min}
use native.Mathlib.Omega.{arith}
use native.Mathlib.Decide.{dec_lt}
use lib.ListN.{length, take, drop, length-take, length-drop}
use lib.Seq.{sets, take_all}
use borrow.Author.Tests.{lt-ltb, le-ltb}
use Rattle.paper.specs.Record.{text_length, marked, simple}
use Rattle.paper.specs.Table.{rec}
use Rattle.paper.specs.Block.{file_text}
use Rattle.paper.specs.Code.{no_read}
use Rattle.paper.specs.Declaration.{Part, or_else}
use Rattle.paper.specs.Check.{Place, whole, refusal_at, Check, check}
use Rattle.paper.specs.Walk.{file}
use Rattle.paper.specs.Answer.{plain, granting}
use Rattle.paper.specs.Effect.{read_inhibited, showing, part, beyond_end}
use Rattle.effects.proofs.Lengths.{text-length}
use Rattle.listing.proofs.Promised.{sets-front}
use Rattle.walk.specs.Shown.{meant}
use Rattle.walk.specs.declared.state.State.{State}
use Rattle.answers.specs.Shown.{shown}
use Rattle.answers.specs.declared.Answer.{Answer}
use Rattle.elephant.specs.Done.{Fit, Wrote}
use Rattle.elephant.specs.Reading.{is_right, written, text_late, late, reading_at}
use Rattle.elephant.specs.declared.reply.Sheet.{Sheet}
use Rattle.elephant.proofs.Verdicts.{first_holds, second_holds, both-pass, wrote-refused, wrote-short, wrote-late, wrote-out, wrote_after}

module _ (s : Sheet) (place : Place) (t reply : List ℕ) (f : State) where
  pub reading-shut : no_read f.code.0 ≡ true → Wrote t reply (reading_at s place t reply (meant f)) (shown (plain 13 place 0 0)) reply
  reading-shut a = wrote-refused t reply _ _ (first_holds (read_inhibited place (meant f)) _ a)

  module _ (a : no_read f.code.0 ≡ false) (h : ℕ) (g : h ≡ file t (meant f)) where
    pub reading-wrong : not (is_right s (rec t h)) ≡ true → Wrote t reply (reading_at s place t reply (meant f)) (shown (plain 15 place 0 0)) reply
    reading-wrong b =
        wrote-refused t reply _ _
        (second_holds (read_inhibited place (meant f)) (check (not (is_right s (rec t (file t (meant f))))) 15 place) _ a (rw (← g) b))

    pub reading-on : not (is_right s (rec t h)) ≡ false → (r : Answer) (w : List ℕ)
        → Wrote t reply (showing [] (written s t h) reply (late s place t h)) r w → Wrote t reply (reading_at s place t reply (meant f)) r w
    reading-on b r w y =
        wrote_after t reply (written s t (file t (meant f))) (late s place t (file t (meant f))) (read_inhibited place (meant f))
        (check (not (is_right s (rec t (file t (meant f))))) 15 place) a (rw (← g) b) r w (rw g at y)

-- as many bytes as there are, of i that are asked for
take-most : (i m : ℕ) (l : List ℕ) → m ≡ min i (length l) → take m l ≡ take i l
take-most i m l e =
    by_cases (dec_lt i (length l)) (λ (o : i < length l). let z : m ≡ i = omega arith in ap (λ (k : ℕ). take k l) z)
    (λ (o : ¬ (i < length l)). take_all m l (omega arith) ∙ sym (take_all i l (omega arith)))

-- a part of the text of a simple file, whose name is at this place, m bytes long by its heading's length
module _ (place : Place) (t reply : List ℕ) (h n : ℕ) (f : Fit t) (s : simple (rec t h) ≡ true) (q : n ≡ text_length (rec t h)) (first count : Part) (m : ℕ)
    (e : m ≡ min (or_else count n) (n - or_else first 0)) where
  size : length (file_text t h) ≡ n
  size = text-length t h f.sized f.sound s ∙ sym q

  abbrev out : List ℕ
  out = part (file_text t h) first count

  abbrev after : List Check
  after = text_late place first t h

  abbrev mark : Check
  mark = check (marked (rec t h)) 23 place

  out-size : length out ≡ m
  unfolding part
  out-size = rw (length-take, length-drop, size) (sym e)

  pub part-short : length reply < m → Wrote t reply (showing [] out reply after) (shown (plain 20 (whole 0) 0 0)) reply
  part-short l = wrote-short t reply out after (omega (arith, out-size))

  pub part-marked : m ≤ length reply → marked (rec t h) ≡ true → Wrote t reply (showing [] out reply after) (shown (plain 23 place 0 0)) reply
  part-marked l b = wrote-late t reply out after (refusal_at 23 place) (omega (arith, out-size)) (first_holds mark _ b)

  pub part-beyond : m ≤ length reply → marked (rec t h) ≡ false → n < or_else first 0
      → Wrote t reply (showing [] out reply after) (shown (plain 28 (whole 2) 0 0)) reply
  part-beyond l b o =
      wrote-late t reply out after (refusal_at 28 (whole 2)) (omega (arith, out-size))
      (second_holds mark (beyond_end (whole 2) first (file_text t h)) [] b (lt-ltb (length (file_text t h)) (or_else first 0) (omega (arith, size))))

  pub part-written : (w : List ℕ) → m ≤ length reply → marked (rec t h) ≡ false → or_else first 0 ≤ n
      → w ≡ sets reply 0 (take m (drop (or_else first 0) (file_text t h)))
      → Wrote t reply (showing [] out reply after) (shown (granting false m 0)) w
  unfolding part
  part-written w l b o z =
      let p : take m (drop (or_else first 0) (file_text t h)) ≡ out =
      take-most (or_else count (length (file_text t h))) m (drop (or_else first 0) (file_text t h)) (rw (length-drop, size) e) in
      let k : length out ≤ length reply = omega (arith, out-size) in
      let i = le-ltb (length (file_text t h)) (or_else first 0) (omega (arith, size)) in
      let v = both-pass mark (beyond_end (whole 2) first (file_text t h)) b i in
      rw (← out-size) (wrote-out t reply out after w k v (z ∙ ap (sets reply 0) p ∙ sets-front out reply k))
