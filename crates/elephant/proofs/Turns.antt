-- One name of a DEL or of a DST: ended by a refusal or by the stop number, or done; then what is left of the names, with what is left of the
-- stores, is the whole. A name done leaves the table sound, so the next one may be tried.
use mathlib.Core.Bool.{Bool, true, false, cond}
use mathlib.Core.List.{List, [], ◌∷◌}
use mathlib.Core.Path.{◌≡◌, refl, sym, ap, ◌∙◌}
use Prim.Native.Nat.{ℕ, suc, ◌+◌, ◌-◌, ◌≤◌, ◌<◌}
use native.Mathlib.Omega.{arith}
use native.Mathlib.Numerals.{add-one}
use lib.Dec.{leb}
use lib.ListN.{length, drop, drop_of_length-le}
use lib.Seq.{drop-cons}
use borrow.Author.Tests.{leb-true}
use Rattle.paper.specs.Check.{whole, refusal_at, Verdict, passed, refused, verdict}
use Rattle.paper.specs.Line.{Word, words, word}
use Rattle.paper.specs.Effect.{Planned, plan, halted}
use Rattle.paper.specs.Answer as paper
use Rattle.paper.specs.Answer.{Outcome, plain, stores, ran, one_name, deleting}
use Rattle.words.specs.Place.{next_word, word_at}
use Rattle.words.proofs.Words.{word-here, word_next}
use Rattle.reader.proofs.Ties.{rest-word}
use Rattle.laws.proofs.Tests.{clash}
use Rattle.demands.proofs.Sound.Clauses.{Sound, sound-clauses}
use Rattle.demands.proofs.Sound.Right.{Right, right-sound}
use Rattle.demands.proofs.SoundKept.Kept.{Keeps, del-keeps, dst-keeps}
use Rattle.answers.specs.Shown.{shown}
use Rattle.answers.specs.declared.Answer.{Answer}
use Rattle.elephant.specs.Done.{did, Fit}
use Rattle.elephant.specs.Removed.{removal_plan, Halted, ended_at, ended_meant, left_told, spent, removed_by, removed_shown, ended_answer, Came, CameAll}
use Rattle.elephant.specs.declared.removal.Removal.{Removal}
use Rattle.elephant.specs.declared.removal.Removal.TheVariants.{Delete, Destroy}
use Rattle.elephant.specs.declared.removal.Ended.{Ended}
use Rattle.std.specs.Prelude.{Result, Ok, Err}

-- ---- the stores of one name, with k left and n needed

abbrev pub left_by : Result ℕ Halted → ℕ
left_by (Ok left) = left
left_by (Err e) = e.left

abbrev short : Halted
short = ended_at 0 (refusal_at 22 (whole 0))

module _ (k n : ℕ) where
  -- all are made, with r left
  spent-done : (r : ℕ) → spent k n ≡ Ok r → (leb n k ≡ true) × (r ≡ k - n)
  spent-done r e = go (leb n k) refl e
    where
      go : (b : Bool) → leb n k ≡ b → cond b (Ok (k - n)) (Err short) ≡ Ok r → (leb n k ≡ true) × (r ≡ k - n)
      go true l z = let y : k - n ≡ r = cc in (l, sym y)
      go false l z = clash (cc)

  -- or not all
  spent-ended : (a : Halted) → spent k n ≡ Err a → (leb n k ≡ false) × (short ≡ a)
  spent-ended a e = go (leb n k) refl e
    where
      go : (c : Bool) → leb n k ≡ c → cond c (Ok (k - n)) (Err short) ≡ Err a → (leb n k ≡ false) × (short ≡ a)
      go true l z = clash (cc)
      go false l z = let x : short ≡ a = cc in (l, x)

  spent-most : left_by (spent k n) ≤ k
  spent-most = go (leb n k)
    where
      go : (c : Bool) → left_by (cond c (Ok (k - n)) (Err short)) ≤ k
      go true = omega arith
      go false = omega arith

-- no more are left than were
pub left-most : (k : ℕ) (x : Planned) → left_by (removed_shown k x) ≤ k
left-most k (halted f) = omega arith
left-most k (plan p) = go (verdict p.checks)
  where
    go : (v : Verdict) → left_by (removed_by k (length p.stores) v) ≤ k
    go passed = spent-most k (length p.stores)
    go (refused f) = omega arith

-- ---- one name

module _ (t : List ℕ) (k n m : ℕ) (more : List ℕ → ℕ → ℕ → ℕ → Outcome) where
  abbrev ending : Halted → Planned → Outcome
  ending a x =
      record {
        answer = plain a.refusal.number a.refusal.place n (m + (k - a.left));
        table = (did t k x).table;
        reply = [];
      }

  one_ended : (x : Planned) (a : Halted) → removed_shown k x ≡ Err a → one_name t [] k n m more (ran k x) ≡ ending a x
  one_ended (halted f) a e =
      let y : ended_at k f ≡ a = cc in
      let w : k ≡ a.left = ap (λ (x : Halted). x.left) y in
      let i : m + (k - a.left) ≡ m = omega arith in
      rw (i, ← y)
  one_ended (plan p) a e = go (verdict p.checks) refl e
    where
      go : (v : Verdict) → verdict p.checks ≡ v → removed_by k (length p.stores) v ≡ Err a
          → one_name t [] k n m more (stores k p v) ≡ ending a (plan p)
      go passed q e =
          let w = spent-ended k (length p.stores) a e in
          let l : 0 ≡ a.left = ap (λ (x : Halted). x.left) w.1 in
          let i : m + (k - a.left) ≡ m + k = omega arith in
          rw (i, q, w.0, ← w.1)
      go (refused f) q e =
          let y : ended_at k f ≡ a = cc in
          let w : k ≡ a.left = ap (λ (x : Halted). x.left) y in
          let i : m + (k - a.left) ≡ m = omega arith in
          rw (i, q, ← y)

  one-done : (x : Planned) (r : ℕ) → removed_shown k x ≡ Ok r
      → one_name t [] k n m more (ran k x) ≡ more (did t k x).table r (n + 1) (m + (k - r))
  one-done (halted f) r e = clash (cc)
  one-done (plan p) r e = go (verdict p.checks) refl e
    where
      go : (v : Verdict) → verdict p.checks ≡ v → removed_by k (length p.stores) v ≡ Ok r
          → one_name t [] k n m more (stores k p v) ≡ more (did t k (plan p)).table r (n + 1) (m + (k - r))
      go passed q e =
          let w = spent-done k (length p.stores) r e in
          let l : length p.stores ≤ k = leb-true (length p.stores) k w.0 in
          let i : m + (k - r) ≡ m + length p.stores = omega (arith, w.1) in
          rw (i, q, w.0, w.1)
      go (refused f) q e = clash (cc)

-- a name done leaves a fit table
done-fit : (t : List ℕ) (k r : ℕ) (x : Planned) → Keeps t x → removed_shown k x ≡ Ok r → Right (did t k x).table
done-fit t k r (halted f) h e = clash (cc)
done-fit t k r (plan p) h e = go (verdict p.checks) refl e
  where
    go : (v : Verdict) → verdict p.checks ≡ v → removed_by k (length p.stores) v ≡ Ok r → Right (did t k (plan p)).table
    go passed q e = rw (q, (spent-done k (length p.stores) r e).0) (h q)
    go (refused f) q e = clash (cc)

removal-keeps : (a : Removal) (t : List ℕ) (u argument : ℕ) (w : Word) → Sound t → Keeps t (removal_plan a t u argument w)
removal-keeps Delete = del-keeps
removal-keeps Destroy = dst-keeps

module _ (a : Removal) (t : List ℕ) (u k n m : ℕ) (w : Word) (ws : List Word) where
  abbrev one : Planned
  one = removal_plan a t u (n + 1) w

  turn-ended : (a₁ : Halted) → removed_shown k one ≡ Err a₁
      → deleting (removal_plan a) t u [] k n m (w ∷ ws)
      ≡ record { answer = plain a₁.refusal.number a₁.refusal.place n (m + (k - a₁.left)); table = (did t k one).table; reply = [] }
  unfolding deleting
  turn-ended a₁ e = one_ended t k n m (λ t₁ k₁ n₁ made₁. deleting (removal_plan a) t₁ u [] k₁ n₁ made₁ ws) one a₁ e

  module _ (r : ℕ) (e : removed_shown k one ≡ Ok r) where
    turn-done : deleting (removal_plan a) t u [] k n m (w ∷ ws) ≡ deleting (removal_plan a) (did t k one).table u [] r (n + 1) (m + (k - r)) ws
    unfolding deleting
    turn-done = one-done t k n m (λ t₁ k₁ n₁ made₁. deleting (removal_plan a) t₁ u [] k₁ n₁ made₁ ws) one r e

    turn-fit : Fit t → Fit (did t k one).table
    turn-fit f =
        let s = right-sound _ (done-fit t k r one (removal-keeps a t u (n + 1) w (sound-clauses t f.sized f.sound)) e) in
        record { sized = s.0; sound = s.1 }

-- ---- all the names

-- what is left of the names, from table t on, is the whole from t₀ on
pub record Deleting (a : Removal) (t₀ line : List ℕ) (u stop : ℕ) (t : List ℕ) (p names left : ℕ) : Type 0 where
  pub whole : deleting (removal_plan a) t u [] left names (stop - left) (drop names (drop 1 (words line)))
      ≡ deleting (removal_plan a) t₀ u [] stop 0 0 (drop 1 (words line))
  pub fit : Fit t
  pub place : p ≡ (word line (suc names)).start
  pub some : left ≤ stop
  pub few : names ≤ length (drop 1 (words line))
  pub size : length t ≡ length t₀

pub deleting-start : (a : Removal) (t line : List ℕ) (u stop p : ℕ) → Fit t → p ≡ (word line 1).start → Deleting a t line u stop t p 0 stop
deleting-start a t line u stop p f e =
    let z : stop - stop ≡ 0 = omega arith in
    record { whole = rw z; fit = f; place = e; some = omega arith; few = omega arith; size = refl }

-- the answer and the table are those of the whole
all-came : (a : Removal) (t₀ line : List ℕ) (u stop : ℕ) (y : paper.Answer) (x : Answer) (v : List ℕ)
    → deleting (removal_plan a) t₀ u [] stop 0 0 (drop 1 (words line)) ≡ record { answer = y; table = v; reply = [] } → x ≡ shown y
    → CameAll a t₀ u stop (drop 1 (words line)) x v
all-came a t₀ line u stop y x v w e =
    record { answer = e ∙ sym (ap (λ (o : Outcome). shown o.answer) w); table = sym (ap (λ (o : Outcome). o.table) w) }

pub deleting-end : (a : Removal) (t₀ line : List ℕ) (u stop : ℕ) (t : List ℕ) (p names left : ℕ) → Deleting a t₀ line u stop t p names left
    → length (drop 1 (words line)) ≤ names → (n : ℕ) → n ≡ names → (x : Answer) → x ≡ shown (plain 0 (whole 0) n (stop - left))
    → CameAll a t₀ u stop (drop 1 (words line)) x t
unfolding deleting
deleting-end a t₀ line u stop t p names left w l n q x e =
    all-came a t₀ line u stop _ x t (sym w.whole ∙ rw (drop_of_length-le (drop 1 (words line)) {i = names} l)) (rw q at e)

module _ (a : Removal) (t₀ line : List ℕ) (u stop : ℕ) (t : List ℕ) (p names left : ℕ) (w : Deleting a t₀ line u stop t p names left)
    (l : names < length (drop 1 (words line))) (r : Result ℕ Ended) (v : List ℕ)
    (z : Came t left (removal_plan a t u (names + 1) (word_at line p)) r v) where
  next : drop names (drop 1 (words line)) ≡ word_at line p ∷ drop (names + 1) (drop 1 (words line))
  next =
      drop-cons (drop 1 (words line)) names (record { start = length line; names = [] ∷ [] }) l
      ∙ rw (rest-word line names, ← word-here line (suc names) p w.place, add-one)

  now : deleting (removal_plan a) t₀ u [] stop 0 0 (drop 1 (words line))
      ≡ deleting (removal_plan a) t u [] left names (stop - left) (word_at line p ∷ drop (names + 1) (drop 1 (words line)))
  now = sym w.whole ∙ rw next

  pub deleting-left : left_by (left_told r) ≤ stop
  deleting-left = rw z.answer (omega (arith, left-most left (removal_plan a t u (names + 1) (word_at line p)), w.some))

  pub deleting-ended : (e : Ended) → r ≡ Err e → (x : Answer) → x ≡ shown (ended_answer e names stop)
      → CameAll a t₀ u stop (drop 1 (words line)) x v
  deleting-ended e y x q =
      let o : e.left ≤ left = rw (← z.answer, y) at (left-most left (removal_plan a t u (names + 1) (word_at line p))) in
      let i : stop - left + (left - e.left) ≡ stop - e.left = omega (arith, w.some) in
      all-came a t₀ line u stop _ x v
      (now ∙ turn-ended a t u left names (stop - left) (word_at line p) _ (ended_meant e) (sym z.answer ∙ ap left_told y) ∙ rw (z.table, i)) q

  pub deleting-on : (rest : ℕ) → r ≡ Ok rest → (q : ℕ) → q ≡ next_word line p → length v ≡ length t
      → Deleting a t₀ line u stop v q (names + 1) rest
  deleting-on rest x q y o =
      let s : removed_shown left (removal_plan a t u (names + 1) (word_at line p)) ≡ Ok rest = sym z.answer ∙ ap left_told x in
      let b : rest ≤ left = rw s at (left-most left (removal_plan a t u (names + 1) (word_at line p))) in
      let e : stop - left + (left - rest) ≡ stop - rest = omega (arith, w.some) in
      record {
        whole = sym (now ∙ turn-done a t u left names (stop - left) (word_at line p) _ rest s ∙ rw (z.table, e));
        fit = rw z.table (turn-fit a t u left names (stop - left) (word_at line p) [] rest s w.fit);
        place = y ∙ rw (w.place, ← word_next line (suc names), add-one);
        some = omega (arith, w.some);
        few = omega arith;
        size = o ∙ w.size;
      }
