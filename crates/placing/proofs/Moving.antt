-- The counts that an entry's store moves, as the code has them, are the paper's `recounts`: a heading's count after the store is the one it
-- has, one more where it comes and one less where it goes; and the two headings in ascending order are all that `recounts` corrects.
use mathlib.Core.Bool.{Bool, true, false, ◌&&◌, ◌||◌, not, cond}
use mathlib.Core.List.{List, [], ◌∷◌, ◌++◌, append-nil, append_assoc}
use mathlib.Core.Logic.{◌⊎◌, inl, inr, ◌≢◌, by_cases}
use mathlib.Core.Path.{◌≡◌, refl, sym, ap, ◌∙◌}
use Prim.Native.Nat.{ℕ, ◌+◌, ◌-◌, ◌≤◌, ◌<◌, min, max}
use native.Mathlib.Omega.{arith}
use native.Mathlib.Decide.{ℕ_discrete, dec_lt}
use lib.Dec.{eqb, ltb}
use lib.ListN.{length, take, drop, length-append, length-take}
use lib.Seq.{sets, sets-eq, length-sets, drop-drop, take_at, drop_at}
use borrow.Author.Tests.{eqb-true, eq-eqb, ne_eqb, lt-ltb, le-ltb}
use Rattle.paper.specs.Number.{bytes_of}
use Rattle.paper.specs.Record.{byte, two, is_kind, directory, holder_of, names}
use Rattle.paper.specs.Table.{rooms, rec, lay}
use Rattle.paper.specs.Entry.{in_directory, stands}
use Rattle.paper.specs.Store.{Store, puts, run}
use Rattle.paper.specs.Count.{namings, holdings, recounted, recounts}
use Rattle.paper.specs.Answer.{yes_no}
use Rattle.laws.proofs.Tests.{truth, not-both, and_left}
use Rattle.laws.proofs.Numbers.{length-bytes}
use Rattle.laws.proofs.Entries.{names-by, typed-kind}
use Rattle.laws.proofs.Lay.{Whole, length-rec, rec-past, lay-other, rooms-lay, within}
use Rattle.laws.proofs.Runs.{rooms-run}
use Rattle.demands.proofs.Recounting as brackets
use Rattle.demands.proofs.Recounting.{Bracket, recounts-few, named-after, held_after}
use Rattle.demands.proofs.Recounting.Few.{Up, In, one, fills_at}
use Rattle.demands.proofs.Recounting.Numbers.{bytes-named, bytes-held}
use Rattle.demands.proofs.Recounting.After.{Entering, heading-same, changed}
use Rattle.records.specs.Counts.{counted}
use Rattle.records.proofs.Builds.{length_whole, whole-there}
use Rattle.effects.specs.Counts.{number_of, one_of, other_of, count_after, turned, moved, recount, count_store, count_stores}
use Rattle.effects.specs.declared.counts.Moves.{Moves}

-- ---- a heading's record

-- as code lays it: bytes 12-13 and 14-15 over what was there
module _ (r : List ℕ) (n h : ℕ) (l : length r ≡ 32) where
  abbrev s : List ℕ
  s = sets r 12 (bytes_of 2 n)

  abbrev a : List ℕ
  a = take 12 r ++ bytes_of 2 n

  parts : s ≡ a ++ drop 14 r
  parts = let q : length (bytes_of 2 n) ≡ 2 = length-bytes 2 n in sets-eq (bytes_of 2 n) r 12 (omega arith) ∙ rw q

  front : length a ≡ 14
  front = simp (length-append, length-take, length-bytes) (omega arith)

  before : take 14 s ≡ a
  before = ap (take 14) parts ∙ take_at a (drop 14 r) 14 front

  after : drop 16 s ≡ drop 16 r
  after = sym (drop-drop 2 14 s) ∙ ap (drop 2) (ap (drop 14) parts ∙ drop_at a (drop 14 r) 14 front) ∙ drop-drop 2 14 r

  size : length s ≡ 32
  size = length-sets r 12 (bytes_of 2 n) ∙ l

  pub counted-parts : counted r n h ≡ take 12 r ++ (bytes_of 2 n ++ (bytes_of 2 h ++ drop 16 r))
  unfolding counted
  counted-parts =
      let q : length (bytes_of 2 h) ≡ 2 = length-bytes 2 h in
      sets-eq (bytes_of 2 h) s 14 (rw size (omega arith))
      ∙ rw (before, q, after) (append_assoc a (bytes_of 2 h) (drop 16 r) ∙ append_assoc (take 12 r) (bytes_of 2 n) (bytes_of 2 h ++ drop 16 r))

length-counted : (r : List ℕ) (n h : ℕ) → length (counted r n h) ≡ length r
unfolding counted
length-counted r n h = length-sets (sets r 12 (bytes_of 2 n)) 14 (bytes_of 2 h) ∙ length-sets r 12 (bytes_of 2 n)

-- a heading that is no directory keeps its bytes 14-15 where they are written again
abbrev pub Plain : List ℕ → Type 0
Plain r = byte r 0 ≡ 1 → directory r ≡ false → take 2 (drop 14 r) ≡ bytes_of 2 (two r 14)

-- ---- numbers

-- one more and one less: whether it is another count, and which
turn : (x y : Bool) (a b : ℕ) → b + yes_no y ≡ a + yes_no x → not (eqb a b) ≡ cond x (not y) y
turn true true a b e = rw (eq-eqb a b (omega arith))
turn true false a b e = rw (ne_eqb a b (λ (z : a ≡ b). omega arith))
turn false true a b e = rw (ne_eqb a b (λ (z : a ≡ b). omega arith))
turn false false a b e = rw (eq-eqb a b (omega arith))

count-is : (x y : Bool) (a b : ℕ) → b + yes_no y ≡ a + yes_no x → b ≡ a + yes_no x - yes_no y
count-is x y a b e = omega arith

-- of two numbers of which one is past n, the lower is the other
pick_first : (a b n i : ℕ) → i ≡ a → i < n → (n ≤ b) ⊎ (n ≤ a) → i ≡ min a b
pick_first a b n i e l (inl m) = omega arith
pick_first a b n i e l (inr m) = omega arith

pick_second : (a b n i : ℕ) → i ≡ b → i < n → (n ≤ b) ⊎ (n ≤ a) → i ≡ min a b
pick_second a b n i e l (inl m) = omega arith
pick_second a b n i e l (inr m) = omega arith

-- both numbers in order
in_order_lem : (a b : ℕ) → a ≢ b → Up 0 (min a b ∷ max a b ∷ [])
in_order_lem a b d = (omega arith, (omega arith, tt))

one-of : (a b i : ℕ) → (i ≡ a) ⊎ (i ≡ b) → In i (min a b ∷ max a b ∷ [])
one-of a b i q = by_cases (dec_lt a b) (λ (l : a < b). up l q) (λ (l : ¬ (a < b)). down l q)
  where
    up : a < b → (i ≡ a) ⊎ (i ≡ b) → (i ≡ min a b) ⊎ ((i ≡ max a b) ⊎ ⊥)
    up l (inl x) = inl (omega arith)
    up l (inr x) = inr (inl (omega arith))

    down : ¬ (a < b) → (i ≡ a) ⊎ (i ≡ b) → (i ≡ min a b) ⊎ ((i ≡ max a b) ⊎ ⊥)
    down l (inl x) = inr (inl (omega arith))
    down l (inr x) = inl (omega arith)

one-alone : (a b i : ℕ) → a ≡ b → (i ≡ a) ⊎ (i ≡ b) → i ≡ min a b
one-alone a b i e (inl x) = omega arith
one-alone a b i e (inr x) = omega arith

least-most : (a b : ℕ) → a ≢ b → min a b ≢ max a b
least-most a b d e = d (omega arith)

-- ---- the counts that move where r is laid over record e

pub record Moved (f : List ℕ) (e : ℕ) (r : List ℕ) (m : Moves) : Type 0 where
  pub named : (i : ℕ) → i < rooms f → names i r ≡ eqb i (number_of m.named)
  pub lost : (i : ℕ) → i < rooms f → names i (rec f e) ≡ eqb i (number_of m.lost)
  pub held : (i : ℕ) → i < rooms f → yes_no (stands (in_directory i) r) + yes_no (eqb i (number_of m.less))
      ≡ yes_no (stands (in_directory i) (rec f e)) + yes_no (eqb i (number_of m.more))
  pub heads : (i : ℕ) → i < rooms f → (i ≡ (number_of m.named)) ⊎ (i ≡ (number_of m.lost)) → byte (rec f i) 0 ≡ 1
  pub holds : (i : ℕ) → i < rooms f → (i ≡ (number_of m.more)) ⊎ (i ≡ (number_of m.less)) → directory (rec f i) ≡ true
  pub come : byte r 0 ≡ 2 → byte (rec f e) 0 ≢ 2 → holder_of r ≡ (number_of m.more)
  pub gone : byte (rec f e) 0 ≡ 2 → byte r 0 ≢ 2 → holder_of (rec f e) ≡ (number_of m.less)
  pub one : (rooms f ≤ (number_of m.less)) ⊎ (rooms f ≤ (number_of m.named))
  pub other : (rooms f ≤ (number_of m.more)) ⊎ (rooms f ≤ (number_of m.lost))

-- a heading that a table has as another has it gets the same store
store_same : (u v : List ℕ) (m : Moves) (i : ℕ) → rooms v ≡ rooms u → (i < rooms u → rec v i ≡ rec u i)
    → count_store v m i ≡ count_store u m i
unfolding count_store moved
store_same u v m i e h =
    by_cases (dec_lt i (rooms u)) (λ (l : i < rooms u). rw (e, h l))
    (λ (l : ¬ (i < rooms u)). rw (e, le-ltb i (rooms u) (omega arith)))

module _ (f : List ℕ) (e : ℕ) (r : List ℕ) (g : Entering f e r) (w : Whole f) (plain : (i : ℕ) → i < rooms f → Plain (rec f i))
    (m : Moves) (v : Moved f e r m) where
  abbrev u : List ℕ
  u = lay f e r

  names-move : (i : ℕ) → i < rooms f → byte (rec f i) 0 ≡ 1
      → namings u i + yes_no (eqb i (number_of m.lost)) ≡ two (rec f i) 12 + yes_no (eqb i (number_of m.named))
  names-move i l k = rw (v.lost i l, v.named i l) at (named-after f e r g i l k)

  held_move : (i : ℕ) → i < rooms f → directory (rec f i) ≡ true
      → holdings u i + yes_no (eqb i (number_of m.less)) ≡ two (rec f i) 14 + yes_no (eqb i (number_of m.more))
  held_move i l d = omega (arith, held_after f e r g i l d, v.held i l)

  no-holder : (i : ℕ) → i < rooms f → directory (rec f i) ≡ false → (eqb i (number_of m.more) ≡ false) × (eqb i (number_of m.less) ≡ false)
  no-holder i l d = (
    ne_eqb i (number_of m.more) (λ q. not-both (v.holds i l (inl q)) d),
    ne_eqb i (number_of m.less) (λ q. not-both (v.holds i l (inr q)) d),
  )

  -- the headings that are corrected
  abbrev corrects : ℕ → Bool
  corrects i = is_kind 1 (rec f i) && changed f e r g i

  abbrev moves : ℕ → Bool
  moves i = turned i (number_of m.named) (number_of m.lost) || turned i (number_of m.more) (number_of m.less)

  changed-here : (i : ℕ) → i < rooms f → byte (rec f i) 0 ≡ 1
      → changed f e r g i ≡ moves i
  changed-here i l k =
      rw (turn (eqb i (number_of m.named)) (eqb i (number_of m.lost)) (namings f i) (namings u i)
      (rw (bytes-named f g.few g.counts i l k) at (names-move i l k)))
      (ap (λ (b : Bool). turned i (number_of m.named) (number_of m.lost) || b) (go (truth (directory (rec f i)))))
    where
      go : (directory (rec f i) ≡ true) ⊎ (directory (rec f i) ≡ false)
          → (directory (rec f i) && not (eqb (holdings f i) (holdings u i))) ≡ turned i (number_of m.more) (number_of m.less)
      go (inl d) =
          rw d (turn (eqb i (number_of m.more)) (eqb i (number_of m.less)) (holdings f i) (holdings u i)
          (rw (bytes-held f g.few g.counts i l k d) at (held_move i l d)))
      go (inr d) = let n = no-holder i l d in rw (d, n.0, n.1)

  corrects-moved : (i : ℕ) → corrects i ≡ moved (rooms u) m i
  unfolding moved
  corrects-moved i = rw (rooms-lay f e r) (by_cases (dec_lt i (rooms f)) here past)
    where
      past : ¬ (i < rooms f) → corrects i ≡ (ltb i (rooms f) && moves i)
      past l = rw (rec-past f i w (omega arith), le-ltb i (rooms f) (omega arith))

      here : i < rooms f → corrects i ≡ (ltb i (rooms f) && moves i)
      here l = rw (lt-ltb i (rooms f) l) (go (truth (is_kind 1 (rec f i))))
        where
          go : (is_kind 1 (rec f i) ≡ true) ⊎ (is_kind 1 (rec f i) ≡ false)
              → corrects i ≡ moves i
          go (inl k) = ap (λ (b : Bool). b && changed f e r g i) k ∙ changed-here i l (eqb-true _ _ k)
          go (inr k) =
              rw (
                k,
                ne_eqb i (number_of m.named) (λ q. not-both (eq-eqb _ _ (v.heads i l (inl q))) k),
                ne_eqb i (number_of m.lost) (λ q. not-both (eq-eqb _ _ (v.heads i l (inr q))) k),
                ne_eqb i (number_of m.more) (λ q. not-both (eq-eqb _ _ (typed-kind 0 (rec f i) (v.holds i l (inl q)))) k),
                ne_eqb i (number_of m.less) (λ q. not-both (eq-eqb _ _ (typed-kind 0 (rec f i) (v.holds i l (inr q)))) k),
              )

  -- .. and what is laid there
  bytes_same : (i : ℕ) → i < rooms f → byte (rec f i) 0 ≡ 1 → recounted u i (rec f i) ≡ recount u m i
  unfolding recounted
  bytes_same i l k =
      rw (heading-same f e r g i l k, whole-there f i l)
      (rw (counted-parts (rec f i) (count_after (two (rec f i) 12) i (number_of m.named) (number_of m.lost))
      (count_after (two (rec f i) 14) i (number_of m.more) (number_of m.less)) (length-rec f i l))
      (rw (count-is (eqb i (number_of m.named)) (eqb i (number_of m.lost)) (two (rec f i) 12) (namings u i) (names-move i l k))
      (go (truth (directory (rec f i))))))
    where
      front : List ℕ
      front = bytes_of 2 (count_after (two (rec f i) 12) i (number_of m.named) (number_of m.lost))

      held : ℕ
      held = count_after (two (rec f i) 14) i (number_of m.more) (number_of m.less)

      go : (directory (rec f i) ≡ true) ⊎ (directory (rec f i) ≡ false)
          → take 12 (rec f i) ++ (front ++ (cond (directory (rec f i)) (bytes_of 2 (holdings u i)) (take 2 (drop 14 (rec f i))) ++ drop 16 (rec f i)))
          ≡ take 12 (rec f i) ++ (front ++ (bytes_of 2 held ++ drop 16 (rec f i)))
      go (inl d) = rw (d, count-is (eqb i (number_of m.more)) (eqb i (number_of m.less)) (two (rec f i) 14) (holdings u i) (held_move i l d))
      go (inr d) =
          let n = no-holder i l d in
          let z : held ≡ two (rec f i) 14 = rw (n.0, n.1) (omega arith) in
          rw (d, plain i l k d, z)

  here-same : (i : ℕ) → one corrects (λ j. recounted u j (rec f j)) i ≡ count_store u m i
  unfolding count_store
  here-same i = go (truth (corrects i)) ∙ ap (λ (b : Bool). cond b (puts i (recount u m i) ∷ []) []) (corrects-moved i)
    where
      go : (corrects i ≡ true) ⊎ (corrects i ≡ false)
          → cond (corrects i) (puts i (recounted u i (rec f i)) ∷ []) [] ≡ cond (corrects i) (puts i (recount u m i) ∷ []) []
      go (inr x) = rw x
      go (inl x) =
          let k : byte (rec f i) 0 ≡ 1 = eqb-true _ _ (and_left (is_kind 1 (rec f i)) _ x) in
          let l : i < rooms f = within f i w (λ (z : byte (rec f i) 0 ≡ 0). omega arith) in
          ap (λ (b : List ℕ). cond (corrects i) (puts i b ∷ []) []) (bytes_same i l k)

  -- the second heading is as it was after the first one's store
  length-recount : (a : ℕ) → length (recount u m a) ≡ 32
  length-recount a = rw length-counted (length_whole u a)

  kept : (a b : ℕ) → a ≢ b → b < rooms u → rec (run u (count_store u m a)) b ≡ rec u b
  unfolding count_store run
  kept a b d l = go (moved (rooms u) m a)
    where
      go : (c : Bool) → rec (run u (cond c (puts a (recount u m a) ∷ []) [])) b ≡ rec u b
      go true = lay-other u a (recount u m a) b (length-recount a) (λ (z : b ≡ a). d (sym z)) l
      go false = refl

  later_same : (a b : ℕ) → a ≢ b → count_store (run u (count_store u m a)) m b ≡ count_store u m b
  later_same a b d = store_same u (run u (count_store u m a)) m b (rooms-run u (count_store u m a)) (kept a b d)

  brackets-in : (i : ℕ) → i < rooms f → Bracket (rec f e) r i → (i ≡ one_of m) ⊎ (i ≡ other_of m)
  brackets-in i l (brackets.named k q) =
      inl (pick_first (number_of m.named) (number_of m.less) (rooms f) i (eqb-true i _ (sym (v.named i l) ∙ names-by i r k q)) l v.one)
  brackets-in i l (brackets.displaced k q) =
      inr (pick_first (number_of m.lost) (number_of m.more) (rooms f) i (eqb-true i _ (sym (v.lost i l) ∙ names-by i (rec f e) k q)) l v.other)
  brackets-in i l (brackets.holds k d q) = inr (pick_second (number_of m.lost) (number_of m.more) (rooms f) i (sym q ∙ v.come k d) l v.other)
  brackets-in i l (brackets.held k d q) = inl (pick_second (number_of m.named) (number_of m.less) (rooms f) i (sym q ∙ v.gone k d) l v.one)

  abbrev low : ℕ
  low = min (one_of m) (other_of m)

  abbrev high : ℕ
  high = max (one_of m) (other_of m)

  abbrev bytes : ℕ → List ℕ
  bytes i = recounted u i (rec f i)

  alone-listed : one_of m ≡ other_of m → fills_at corrects bytes (low ∷ []) ≡ count_stores u m
  unfolding fills_at count_stores
  alone-listed q = ap (λ (x : List Store). x ++ []) (here-same low) ∙ rw (eq-eqb (one_of m) (other_of m) q)

  both-listed : one_of m ≢ other_of m → fills_at corrects bytes (low ∷ high ∷ []) ≡ count_stores u m
  unfolding fills_at count_stores
  both-listed d =
      ap (λ (x : List Store). x ++ (one corrects bytes high ++ [])) (here-same low)
      ∙ ap (λ (x : List Store). count_store u m low ++ x)
      (append-nil (one corrects bytes high) ∙ here-same high ∙ sym (later_same low high (least-most (one_of m) (other_of m) d)))
      ∙ rw (ne_eqb (one_of m) (other_of m) d)

  pub counts-corrected : recounts u ≡ count_stores u m
  counts-corrected =
      by_cases (ℕ_discrete (one_of m) (other_of m))
      (λ (q : one_of m ≡ other_of m).
      recounts-few f e r g w (low ∷ []) (omega arith, tt) (λ i l _ b. inl (one-alone (one_of m) (other_of m) i q (brackets-in i l b))) ∙ alone-listed q)
      (λ (d : one_of m ≢ other_of m).
      recounts-few f e r g w (low ∷ high ∷ []) (in_order_lem (one_of m) (other_of m) d) (λ i l _ b. one-of (one_of m) (other_of m) i (brackets-in i l b))
      ∙ both-listed d)
