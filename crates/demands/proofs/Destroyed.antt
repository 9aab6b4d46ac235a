-- "When a key sheet is withdrawn, every path must go." A granted DST clears, for each name, the heading that its walk came to, the text, and every
-- entry that names it, whoever's and wherever it stands; so no walk of anybody comes to it. All else is byte for byte as before, but for the
-- counts of directories that held such an entry: the counts of every other heading are still true, and get no store.
use mathlib.Core.Bool.{Bool, true, false, ◌&&◌, cond}
use mathlib.Core.List.{List, [], ◌∷◌}
use mathlib.Core.Logic.{◌⊎◌, inl, inr, ◌≢◌}
use mathlib.Core.Path.{◌≡◌, refl, sym, ◌∙◌, subst}
use Prim.Native.Nat.{ℕ, ◌+◌, ◌-◌, ◌<◌}
use native.Mathlib.Omega.{arith}
use lib.Dec.{eqb}
use lib.ListN.{length}
use borrow.Author.Tests.{eqb-true, eq-eqb}
use Rattle.paper.specs.Scan.{any_below}
use Rattle.paper.specs.Record.{byte, is_kind, holder_of, names, blank}
use Rattle.paper.specs.Layout.{boxed}
use Rattle.paper.specs.Table.{sized, rooms, rec}
use Rattle.paper.specs.Line.{Word}
use Rattle.paper.specs.Check.{passed, verdict}
use Rattle.paper.specs.Request.{dst, request, asked}
use Rattle.paper.specs.Code.{no_write}
use Rattle.paper.specs.Entry.{in_directory, stands, crowd, named}
use Rattle.paper.specs.Sound.{sound}
use Rattle.paper.specs.Walk.{State, start, file, reached, to_directory, to_last}
use Rattle.paper.specs.Store.{Store, run}
use Rattle.paper.specs.Count.{namings, counts_right, recounted}
use Rattle.paper.specs.Effect.{Plan, Planned, plan, halted, chain_of, with_counts, with_entries, destroying, dst_plan}
use Rattle.paper.specs.Answer.{Outcome, ran, one_name, deleting, requested}
use Rattle.laws.proofs.Tests.{truth, not-both, and_left, and_right, and_both, or_cases, or_left, or_right, false-by}
use Rattle.laws.proofs.Scans.{any-true, any_false, any_here, any_none}
use Rattle.laws.proofs.Counts.{count-cong}
use Rattle.laws.proofs.Entries.{stands-true, names-kind, names-heading, names-by}
use Rattle.laws.proofs.Lay.{length-rec, kind-blank}
use Rattle.laws.proofs.Runs.{length_run}
use Rattle.laws.proofs.Recounts.{recounted-same, rec-recounts}
use Rattle.demands.proofs.Sound.Clauses.{Sound}
use Rattle.demands.proofs.Sound.Right.{Right, sound-right}
use Rattle.demands.proofs.Request.Several.{destruction}
use Rattle.demands.proofs.Request.Fair.{verdict-idle, fair-some}
use Rattle.demands.proofs.Request.Chains.{names_at}
use Rattle.demands.proofs.Request.Steps.{last-looked, end_by}
use Rattle.demands.proofs.Request.Ended.{Passed, ran-by}
use Rattle.demands.proofs.Answered.{del-came}
use Rattle.demands.proofs.Answered.Numbered.{named-refused}
use Rattle.demands.proofs.SoundKept.Kept.{passed-sound, dst-keeps}
use Rattle.demands.proofs.SoundKept.Freed.{text_of, file_of, gone_of}
use Rattle.demands.proofs.Mending.Part.{ButCounts, Alike, equal, counts}
use Rattle.demands.proofs.Mending.Counts.{is-blank, alike-names, recounts-each, counts-at}
use Rattle.demands.proofs.PowerCut.Razing as razing
use Rattle.demands.proofs.Standing.{dst-steps}
use Rattle.demands.proofs.Standing.Razed.{Destroys, Razed, still, other, gone}

-- ---- one name

-- the stores of a name whose checks pass: the walk, and the file that it came to
pub record Doomed (t : List ℕ) (u : ℕ) (w : Word) (ss : List Store) : Type 0 where
  pub directory : State
  pub end : State
  pub walked : to_directory boxed t 1 (start u) (chain_of w) ≡ reached directory
  pub last : to_last boxed t directory (chain_of w) ≡ reached end
  pub kind : byte (rec t (file t end)) 0 ≡ 1
  pub write : no_write end.code ≡ false
  pub childless : with_entries t (file t end) ≡ false
  pub stores : ss ≡ with_counts t (destroying t (file t end))

abbrev Dooms : List ℕ → ℕ → Word → Planned → Type 0
Dooms t u w (plan p) = verdict p.checks ≡ passed → Doomed t u w p.stores
Dooms t u w (halted f) = Unit {0}

dst-dooms : (t : List ℕ) → Sound t → (u place : ℕ) (w : Word) → Dooms t u w (dst_plan boxed t u place w)
unfolding dst_plan
dst-dooms t c u place w =
    end_by (Dooms t u w) place (λ _ _ _. tt) t u w _ (λ d f q r v.
    let e = last-looked t d (chain_of w) f r in
    let i = verdict-idle _ v in
    record {
      directory = d;
      end = f;
      walked = q;
      last = r;
      kind = c.targets f.entry e.within e.stands.kind;
      write = i.0;
      childless = i.1.0;
      stores = refl;
    })

pub passed-doomed : (t : List ℕ) → Sound t → (u place : ℕ) (w : Word) (p : Plan) → Passed (dst_plan boxed t u place w) p → Doomed t u w p.stores
passed-doomed t c u place w p v = let s : Dooms t u w (plan p) = rw v.plan at (dst-dooms t c u place w) in s v.checks

-- ---- what it leaves

-- record i is as it was; or it is a directory that held an entry of the file, with other counts
pub data Else (t s : List ℕ) (h i : ℕ) : Type 0 where
  same : rec s i ≡ rec t i → Else t s h i
  holder : (j : ℕ) → j < rooms t → names h (rec t j) ≡ true → holder_of (rec t j) ≡ i → ButCounts (rec t i) (rec s i) → Else t s h i

-- the file of heading h of t is gone from s
pub record Gone (t s : List ℕ) (h : ℕ) : Type 0 where
  pub long : length s ≡ length t
  -- its records are free: the heading, its text, and every entry that named it
  pub free : (i : ℕ) → i < rooms t → gone_of t h i ≡ true → rec s i ≡ blank
  -- no entry of any user in any directory names it
  pub unnamed : named s h ≡ false
  -- no walk of any user comes to it
  pub unreached : (v : ℕ) (ns : List (List ℕ)) (d f : State) → to_directory boxed s 1 (start v) ns ≡ reached d → to_last boxed s d ns ≡ reached f → file s f ≢ h
  -- and nothing else has changed but the holders' counts
  pub others : (i : ℕ) → i < rooms t → gone_of t h i ≡ false → Else t s h i

module _ (t : List ℕ) (h : ℕ) (r : Right t) (k : byte (rec t h) 0 ≡ 1) where
  abbrev c : Sound t
  c = r.clauses

  abbrev g : List ℕ
  g = razing.g t h c k

  abbrev s : List ℕ
  s = razing.f t h c k

  long-s : length s ≡ length t
  long-s = unfold razing.f razing.g in length_run (run t (destroying t h)) _ ∙ length_run t (destroying t h)

  in_g : (i : ℕ) → i < rooms t → rec g i ≡ cond (gone_of t h i) blank (rec t i)
  in_g = razing.in_g t h c k

  to-s : (i : ℕ) → i < rooms t → Alike (rec g i) (rec s i)
  to-s i l = unfold razing.f in recounts-each g i (rw (razing.rooms-g t h c k) l)

  frees : (i : ℕ) → i < rooms t → gone_of t h i ≡ true → rec s i ≡ blank
  frees i l e = let z : rec g i ≡ blank = in_g i l ∙ rw e in is-blank (rec s i) (rw z at (to-s i l))

  -- an entry that is gone named it
  entry_gone : (j : ℕ) → byte (rec t j) 0 ≡ 2 → gone_of t h j ≡ true → names h (rec t j) ≡ true
  entry_gone j e x = go (or_cases (file_of t h j) (names h (rec t j)) x)
    where
      file-no : (eqb j h ≡ true) ⊎ (text_of h (rec t j) ≡ true) → ⊥
      file-no (inl q) = let z : byte (rec t j) 0 ≡ 1 = rw (eqb-true j h q) k in omega arith
      file-no (inr q) = let z : byte (rec t j) 0 ≡ 3 = eqb-true _ _ (and_left (is_kind 3 (rec t j)) _ q) in omega arith

      go : (file_of t h j ≡ true) ⊎ (names h (rec t j) ≡ true) → names h (rec t j) ≡ true
      go (inl q) = absurd (file-no (or_cases (eqb j h) (text_of h (rec t j)) q))
      go (inr q) = q

  -- a test of entries that no entry gone passes reads the same
  test-same : (q : List ℕ → Bool) → q blank ≡ false → ((x : List ℕ) → q x ≡ true → byte x 0 ≡ 2)
      → ((j : ℕ) → j < rooms t → names h (rec t j) ≡ true → q (rec t j) ≡ true → ⊥) → (j : ℕ) → j < rooms t → q (rec g j) ≡ q (rec t j)
  test-same q z e n j l = go (gone_of t h j) refl (in_g j l)
    where
      go : (b : Bool) → gone_of t h j ≡ b → rec g j ≡ cond b blank (rec t j) → q (rec g j) ≡ q (rec t j)
      go false x y = rw y
      go true x y = rw y (z ∙ sym (false-by (q (rec t j)) (λ p. n j l (entry_gone j (e (rec t j) p) x) p)))

  unnamed-s : named s h ≡ false
  unfolding named
  unnamed-s =
      any_none (λ j. names h (rec s j)) (rooms s) (λ j l. false-by _ (λ e.
      let m : j < rooms t = rw long-s at l in
      at j m (truth (gone_of t h j)) e))
    where
      at : (j : ℕ) → j < rooms t → (gone_of t h j ≡ true) ⊎ (gone_of t h j ≡ false) → names h (rec s j) ≡ true → ⊥
      at j m (inl x) e = let z : ⊥ = omega (arith, kind-blank (rec s j) (frees j m x), names-kind h (rec s j) e) in z
      at j m (inr x) e =
          let y : rec g j ≡ rec t j = in_g j m ∙ rw x in
          let n : names h (rec t j) ≡ true = sym (alike-names h (rec t j) (rec s j) (rw y at (to-s j m))) ∙ e in
          not-both (or_right (file_of t h j) (names h (rec t j)) n) x

  -- the counts of a heading that held no entry of it are true
  module _ (i : ℕ) (l : i < rooms t) (e : gone_of t h i ≡ false) where
    apart : i ≢ h
    apart q = not-both (or_left (file_of t h i) (names h (rec t i)) (or_left (eqb i h) (text_of h (rec t i)) (eq-eqb i h q))) e

    there : rec g i ≡ rec t i
    there = in_g i l ∙ rw e

    abbrev held : ℕ → Bool
    held j = names h (rec t j) && stands (in_directory i) (rec t j)

    namings-same : namings g i ≡ namings t i
    unfolding namings
    namings-same =
        rw (razing.rooms-g t h c k) (count-cong _ _ (rooms t) (test-same (names i) (unfold blank in refl) (names-kind i)
        (λ j _ a b. apart (sym (names-heading i (rec t j) b) ∙ names-heading h (rec t j) a))))

    crowd-same : any_below held (rooms t) ≡ false → crowd g (in_directory i) ≡ crowd t (in_directory i)
    unfolding crowd
    crowd-same n =
        rw (razing.rooms-g t h c k) (count-cong _ _ (rooms t) (test-same (stands (in_directory i)) (unfold blank stands in refl)
        (λ x y. (stands-true (in_directory i) x y).kind)
        (λ j m a b. not-both (and_both (names h (rec t j)) _ a b) (any_false held (rooms t) j m n))))

    right-g : any_below held (rooms t) ≡ false → byte (rec t i) 0 ≡ 1 → counts_right g i (rec t i) ≡ true
    unfolding counts_right
    right-g n q = rw (namings-same, crowd-same n) (unfold counts_right in counts-at t r.counts i l q)

    unheld : any_below held (rooms t) ≡ false → rec s i ≡ rec t i
    unheld n = laid ∙ rw there (go (is_kind 1 (rec t i)) refl)
      where
        laid : rec s i ≡ cond (is_kind 1 (rec g i)) (recounted g i (rec g i)) (rec g i)
        laid = unfold razing.f in rec-recounts g i (rw (razing.rooms-g t h c k) l)

        go : (b : Bool) → is_kind 1 (rec t i) ≡ b → cond b (recounted g i (rec t i)) (rec t i) ≡ rec t i
        go true q = recounted-same g i (rec t i) (length-rec t i l) (right-g n (eqb-true _ _ q))
        go false q = refl

    else-s : Else t s h i
    else-s = go (truth (any_below held (rooms t)))
      where
        by : (j : ℕ) → j < rooms t → held j ≡ true → Alike (rec t i) (rec s i) → Else t s h i
        by j m x (equal q) = same q
        by j m x (counts b) =
            holder j m (and_left (names h (rec t j)) _ x) (stands-true (in_directory i) (rec t j) (and_right (names h (rec t j)) _ x)).heading b

        go : (any_below held (rooms t) ≡ true) ⊎ (any_below held (rooms t) ≡ false) → Else t s h i
        go (inl x) = let w = any-true held (rooms t) x in by w.0 w.1 w.2 (rw there at (to-s i l))
        go (inr x) = same (unheld x)

-- no walk comes to a heading that no entry names
no_walk : (s : List ℕ) (h : ℕ) → named s h ≡ false → (ns : List (List ℕ)) (d f : State) → to_last boxed s d ns ≡ reached f → file s f ≢ h
unfolding named
no_walk s h n ns d f q e =
    let x = last-looked s d ns f q in
    not-both (any_here (λ j. names h (rec s j)) (rooms s) f.entry x.within (names-by h (rec s f.entry) x.stands.kind e)) n

pub razed-gone : (t : List ℕ) (h : ℕ) → Right t → byte (rec t h) 0 ≡ 1 → Gone t (run t (with_counts t (destroying t h))) h
razed-gone t h r k =
    rw (razing.end_is t h r.clauses k)
    (record {
      long = long-s t h r k;
      free = frees t h r k;
      unnamed = unnamed-s t h r k;
      unreached = λ v ns d f _ q. no_walk (s t h r k) h (unnamed-s t h r k) ns d f q;
      others = else-s t h r k;
    })

-- ---- all names

-- the name w of user u on t, which leaves m: its file is gone from m, and so it is from s, the table after all names
pub record NameGone (t : List ℕ) (u : ℕ) (w : Word) (m s : List ℕ) : Type 0 where
  pub directory : State
  pub end : State
  pub walked : to_directory boxed t 1 (start u) (chain_of w) ≡ reached directory
  pub last : to_last boxed t directory (chain_of w) ≡ reached end
  pub gone : Gone t m (file t end)
  pub unnamed : named s (file t end) ≡ false
  pub heading : rec s (file t end) ≡ blank

abbrev pub AllGone : ℕ → List Word → List ℕ → List ℕ → Type 0
AllGone u [] t s = s ≡ t
AllGone u (w ∷ ws) t s = (m : List ℕ) × NameGone t u w m s × AllGone u ws m s

-- what no entry names stays so
still-unnamed : (t s : List ℕ) (h : ℕ) → Destroys t s → named t h ≡ false → named s h ≡ false
unfolding named
still-unnamed t s h d n =
    any_none (λ j. names h (rec s j)) (rooms s) (λ j l. false-by _ (λ e. at j (rw d.long at l) e (d.each j (rw d.long at l))))
  where
    at : (j : ℕ) → j < rooms t → names h (rec s j) ≡ true → Razed t s j → ⊥
    at j l e (still q) = not-both (rw q at e) (any_false (λ j. names h (rec t j)) (rooms t) j l n)
    at j l e (other a b) = b (names-kind h (rec s j) e)
    at j l e (gone z w q) = omega (arith, kind-blank (rec s j) z, names-kind h (rec s j) e)

-- one name, and whatever else is destroyed after it
doomed-gone : (t : List ℕ) (u : ℕ) (w : Word) (ss : List Store) (s : List ℕ) → Right t → Doomed t u w ss → Destroys (run t ss) s
    → NameGone t u w (run t ss) s
doomed-gone t u w ss s c e d =
    let l : h < rooms t = razing.in-h t h c.clauses e.kind in
    record {
      directory = e.directory;
      end = e.end;
      walked = e.walked;
      last = e.last;
      gone = q;
      unnamed = still-unnamed (run t ss) s h d q.unnamed;
      heading = d.free h (rw q.long l) (q.free h l itself);
    }
  where
    h : ℕ
    h = file t e.end

    itself : gone_of t h h ≡ true
    itself = or_left (file_of t h h) (names h (rec t h)) (or_left (eqb h h) (text_of h (rec t h)) (eq-eqb h h refl))

    q : Gone t (run t ss) h
    q = subst (λ (x : List Store). Gone t (run t x) h) (sym e.stores) (razed-gone t h c e.kind)

deleting-gone : (u : ℕ) (ws : List Word) (t reply : List ℕ) (k n made : ℕ) → Right t → (deleting (dst_plan boxed) t u reply k n made ws).answer.number ≡ 0
    → AllGone u ws t (deleting (dst_plan boxed) t u reply k n made ws).table
unfolding deleting
deleting-gone u [] t reply k n made c = λ _. refl
deleting-gone u (w ∷ ws) t reply k n made c = one (λ t₁. deleting-gone u ws t₁ reply)
  where
    x : Planned
    x = dst_plan boxed t u (n + 1) w

    more : List ℕ → ℕ → ℕ → ℕ → Outcome
    more t₁ k₁ n₁ made₁ = deleting (dst_plan boxed) t₁ u reply k₁ n₁ made₁ ws

    name-gone : (p : Plan) → Passed x p → (s : List ℕ) → Destroys (run t p.stores) s → NameGone t u w (run t p.stores) s
    name-gone p v s d = doomed-gone t u w p.stores s c (passed-doomed t c.clauses u (n + 1) w p v) d

    one : ((t₁ : List ℕ) (k₁ n₁ made₁ : ℕ) → Right t₁ → (more t₁ k₁ n₁ made₁).answer.number ≡ 0 → AllGone u ws t₁ (more t₁ k₁ n₁ made₁).table)
        → (one_name t reply k n made more (ran k x)).answer.number ≡ 0 → AllGone u (w ∷ ws) t (one_name t reply k n made more (ran k x)).table
    one rest =
        ran-by (λ y. (one_name t reply k n made more y).answer.number ≡ 0 → AllGone u (w ∷ ws) t (one_name t reply k n made more y).table) k x
        (λ f v z.
        let b : ⊥ = omega (arith, z, fair-some (λ _. w.names) f (named-refused destruction t u n w f v)) in absurd b)
        (λ p v _ z.
        let m : List ℕ = run t p.stores in
        let cm = passed-sound t x p (dst-keeps t u (n + 1) w c.clauses) v in
        let k₁ : ℕ = k - length p.stores in
        let made₁ : ℕ = made + length p.stores in
        (m, name-gone p v (more m k₁ (n + 1) made₁).table (dst-steps u ws m reply k₁ (n + 1) made₁ cm.clauses), rest m k₁ (n + 1) made₁ cm z))
        (λ p v l z. let b : ⊥ = omega (arith, z) in absurd b)

-- the theorem: after a granted DST of user u, on any sound table, each name's file is gone everywhere
pub destroyed-everywhere : (t line text reply : List ℕ) (u k : ℕ) (ws : List Word) → sized t ≡ true → sound boxed t ≡ true
    → asked line text ≡ request (dst ws) → (requested boxed t line text reply u k).answer.number ≡ 0
    → AllGone u ws t (requested boxed t line text reply u k).table
destroyed-everywhere t line text reply u k ws a b q =
    del-came (λ o. o.answer.number ≡ 0 → AllGone u ws t o.table) destruction t line text reply u k ws q
    (λ f h z. let y : ⊥ = omega (arith, z, fair-some (names_at line) f h) in absurd y)
    (deleting-gone u ws t reply k 0 0 (sound-right t a b))
