-- A file destroyed: the first store, which counts, clears its heading, and from then on its text and the entries that name it are debris, for there
-- is no heading that keeps the text, or that the entries name. What follows clears them, and corrects the counts of headings that stay.
use mathlib.Core.Bool.{Bool, true, false, cond}
use mathlib.Core.List.{List, ◌∷◌, ◌++◌, append_assoc}
use mathlib.Core.Logic.{inl, inr, ◌≢◌}
use mathlib.Core.Path.{◌≡◌, refl, sym, ◌∙◌}
use Prim.Native.Nat.{ℕ, zero, suc, ◌<◌}
use native.Mathlib.Omega.{arith}
use lib.Dec.{eqb}
use lib.ListN.{length, take}
use borrow.Author.Tests.{eq-eqb}
use Rattle.paper.specs.Record.{byte, is_kind, heading_named, heading_of, names, blank}
use Rattle.paper.specs.Layout.{boxed}
use Rattle.paper.specs.Table.{rooms, rec, lay, text_room}
use Rattle.paper.specs.Line.{Word}
use Rattle.paper.specs.Check.{passed, verdict}
use Rattle.paper.specs.Block.{blocks_of}
use Rattle.paper.specs.Walk.{file}
use Rattle.paper.specs.Store.{Store, clear, clears, run}
use Rattle.paper.specs.Count.{recounts}
use Rattle.paper.specs.Effect.{Plan, Planned, plan, halted, chain_of, bared, freed, with_counts, with_entries, destroying, dst_plan}
use Rattle.paper.specs.Mend.{mended}
use Rattle.laws.proofs.Tests.{not-both, or_left, or_right}
use Rattle.laws.proofs.Lists.{Every, every_append, every-imp, every-each, every_take}
use Rattle.laws.proofs.Entries.{names-kind, names-heading}
use Rattle.laws.proofs.Lay.{lay-same, lay-other, rooms-lay, length-lay, length-rec, length-blank, within, kinds-apart, kind-blank}
use Rattle.laws.proofs.Runs.{Lays, run-append, length_run, rooms-run}
use Rattle.laws.proofs.Recounts.{Recount, every-recounts}
use Rattle.demands.proofs.Sound.Clauses.{Sound}
use Rattle.demands.proofs.Sound.Right.{Right}
use Rattle.demands.proofs.Request.Fair.{verdict-idle}
use Rattle.demands.proofs.Request.Steps.{last-looked, end_by}
use Rattle.demands.proofs.Request.Ended.{Passed}
use Rattle.demands.proofs.SoundKept.Freed.{text_of, file_of, gone_of, text-found, destroyed-cleared, destroyed-sound}
use Rattle.demands.proofs.SoundKept.Counted.{recounts-right}
use Rattle.demands.proofs.Mending.Wipe.{Blanks, every-clears}
use Rattle.demands.proofs.Mending.Part.{counts}
use Rattle.demands.proofs.Mending.Counts.{is-blank, but-recount, recounts-each}
use Rattle.demands.proofs.Mending.Debris.{keeps-none, Once, kept-once, sound-keeps, mended-sound, body, Debris, laid, link}
use Rattle.demands.proofs.Mending.Again.{Tidy, tidied}
use Rattle.demands.proofs.PowerCut.Cut.{Rids, tidy-rids, swept-any, swept_once, Cut}

module _ (t : List ℕ) (h : ℕ) (c : Sound t) (k : byte (rec t h) 0 ≡ 1) where
  pub in-h : h < rooms t
  in-h = within t h c.whole (omega arith)

  -- the heading cleared; all of it cleared; and the counts corrected
  unfoldable pub m : List ℕ
  m = lay t h blank

  unfoldable pub g : List ℕ
  g = run t (destroying t h)

  unfoldable pub f : List ℕ
  f = run g (recounts g)

  pub rooms-m : rooms m ≡ rooms t
  unfolding m
  rooms-m = rooms-lay t h blank

  pub rooms-g : rooms g ≡ rooms t
  unfolding g
  rooms-g = rooms-run t (destroying t h)

  pub at-h : rec m h ≡ blank
  unfolding m
  at-h = lay-same t h blank length-blank in-h

  pub elsewhere : (i : ℕ) → i < rooms t → i ≢ h → rec m i ≡ rec t i
  unfolding m
  elsewhere i l d = lay-other t h blank i length-blank d l

  pub in_g : (i : ℕ) → i < rooms t → rec g i ≡ cond (gone_of t h i) blank (rec t i)
  unfolding g
  in_g = (destroyed-cleared t h c k).each

  -- what is gone is free at the end
  free : (i : ℕ) → i < rooms t → gone_of t h i ≡ true → rec f i ≡ blank
  unfolding f
  free i l e =
      let z : rec g i ≡ blank = in_g i l ∙ rw e in
      is-blank (rec (run g (recounts g)) i) (rw z at (recounts-each g i (rw rooms-g l)))

  pub free-h : rec f h ≡ blank
  free-h = free h in-h (or_left (file_of t h h) (names h (rec t h)) (or_left (eqb h h) (text_of h (rec t h)) (eq-eqb h h refl)))

  -- a clearing of debris
  sweep : (i : ℕ) → i < rooms t → gone_of t h i ≡ true → Debris f m (rec m i) → Rids f m (clear i)
  sweep i l e d = record { within = rw rooms-m l; size = length-blank; holds = inr (refl, (free i l e, d)) }

  -- the text belongs to no heading that keeps it
  texts : Every (Rids f m) (bared t h)
  texts = every-each (Rids f m) _ (blocks_of t h) one
    where
      one : (p : ℕ) → p < blocks_of t h → Rids f m (clear (text_room t h p))
      one p b =
          let i : ℕ = text_room t h p in
          let y = text-found 65535 t h c k p b in
          let s : rec m i ≡ rec t i = elsewhere i y.0 (kinds-apart t i h 3 1 y.1.kind k (omega arith)) in
          sweep i y.0 (or_left (file_of t h i) (names h (rec t i))
          (or_right (eqb i h) (text_of h (rec t i)) (rw y.1.kind (eq-eqb (heading_of (rec t i)) h y.1.heading))))
          (rw s (laid (body y.1.kind (rw (y.1.heading, free-h) keeps-none))))

  -- the entries name no heading
  adrift : (r : List ℕ) → heading_named r ≡ h → is_kind 1 (rec m (heading_named r)) ≡ false
  unfolding blank
  adrift r e = rw (e, at-h)

  entries : Every (Rids f m) (clears (λ i. names h (rec t i)) (rooms t))
  entries =
      every-imp (Lays (Blanks (λ i. names h (rec t i))) (rooms t)) (Rids f m) (clears (λ i. names h (rec t i)) (rooms t)) one
      (every-clears (λ i. names h (rec t i)) (rooms t))
    where
      one : (x : Store) → Lays (Blanks (λ i. names h (rec t i))) (rooms t) x → Rids f m x
      one x l =
          let i : ℕ = x.at in
          let n : names h (rec t i) ≡ true = l.holds.1 in
          let e : byte (rec t i) 0 ≡ 2 = names-kind h (rec t i) n in
          let s : rec m i ≡ rec t i = elsewhere i l.within (kinds-apart t i h 2 1 e k (omega arith)) in
          record {
            within = rw rooms-m l.within;
            size = l.size;
            holds = inr (
              l.holds.0,
              (free i l.within (or_right (file_of t h i) (names h (rec t i)) n), rw s (link e (adrift (rec t i) (names-heading h (rec t i) n)))),
            );
          }

  -- a heading that stays is as it was
  pub stays : (i : ℕ) → i < rooms t → byte (rec g i) 0 ≡ 1 → (i ≢ h) × (rec g i ≡ rec t i)
  stays i l q = go (gone_of t h i) refl (in_g i l)
    where
      apart : gone_of t h i ≡ false → i ≢ h
      apart n e = not-both (or_left (file_of t h i) (names h (rec t i)) (or_left (eqb i h) (text_of h (rec t i)) (eq-eqb i h e))) n

      go : (b : Bool) → gone_of t h i ≡ b → rec g i ≡ cond b blank (rec t i) → (i ≢ h) × (rec g i ≡ rec t i)
      go true n z = let y : ⊥ = omega (arith, kind-blank (rec g i) z) in absurd y
      go false n z = (apart n, z)

  -- .. but for its counts
  tallies : Every (Rids f m) (recounts g)
  tallies = every-imp (Lays (Recount g) (rooms g)) (Rids f m) (recounts g) one (every-recounts g)
    where
      one : (x : Store) → Lays (Recount g) (rooms g) x → Rids f m x
      one x l =
          let i : ℕ = x.at in
          let b : i < rooms t = rw rooms-g at l.within in
          let y = stays i b l.holds.1.0 in
          let q : rec g i ≡ rec m i = y.1 ∙ sym (elsewhere i b y.0) in
          record {
            within = rw rooms-m b;
            size = l.size;
            holds = inl (rw (← q, l.holds.0)
                (counts (but-recount g i (rec g i) (length-rec g i l.within) l.holds.1.0)));
          }

  unfoldable pub post : List Store
  post = bared t h ++ (clears (λ i. names h (rec t i)) (rooms t) ++ recounts g)

  pub stores-are : with_counts t (destroying t h) ≡ clear h ∷ post
  unfolding destroying freed post g
  stores-are = append_assoc (clear h ∷ bared t h) (clears (λ i. names h (rec t i)) (rooms t)) (recounts g)

  pub end_is : run t (with_counts t (destroying t h)) ≡ f
  unfolding f g
  end_is = run-append t (destroying t h) (recounts (run t (destroying t h)))

  -- what follows is counts, and clearings of debris
  pub rids : Every (Rids f m) post
  unfolding post
  rids =
      every_append (Rids f m) (bared t h) (clears (λ i. names h (rec t i)) (rooms t) ++ recounts g) texts
      (every_append (Rids f m) (clears (λ i. names h (rec t i)) (rooms t)) (recounts g) entries tallies)

  pub ends_at : run m post ≡ f
  unfolding m run
  ends_at = rw stores-are at end_is

module _ (t : List ℕ) (h : ℕ) (r : Right t) (k : byte (rec t h) 0 ≡ 1) (v : with_entries t h ≡ false) where
  abbrev c : Sound t
  c = r.clauses

  pub razed-right : Right (f t h c k)
  unfolding f g
  razed-right = recounts-right (run t (destroying t h)) (destroyed-sound t h c k v)

  -- the heading cleared: each record as it is then, or tidied, it mends to the table after, in one round
  module _ (x : List ℕ) (e : length x ≡ length t) (each : (i : ℕ) → i < rooms t → Tidy (rec (m t h c k) i) (rec (f t h c k) i) (rec x i)) where
    long-m : length x ≡ length (m t h c k)
    long-m = e ∙ sym (unfold m in length-lay t h blank)

    each-m : (i : ℕ) → i < rooms (m t h c k) → Tidy (rec (m t h c k) i) (rec (f t h c k) i) (rec x i)
    each-m i l = each i (rw (rooms-m t h c k) at l)

    pub razed-mends : mended x ≡ f t h c k
    razed-mends =
        swept-any (f t h c k) (m t h c k) (post t h c k) (ends_at t h c k) razed-right.clauses.whole (sound-keeps (f t h c k) razed-right) (rids t h c k)
        x long-m each-m

    pub razed-once : Once x
    razed-once =
        swept_once (f t h c k) (m t h c k) (post t h c k) (ends_at t h c k) razed-right.clauses.whole (sound-keeps (f t h c k) razed-right) (rids t h c k)
        x long-m each-m

  -- cut before the first store it is the table before, and after it the table after
  pub destroying-cut : (n : ℕ) → Cut t (with_counts t (destroying t h)) n
  unfolding run m
  destroying-cut zero = record { once = kept-once t (sound-keeps t r); lands = inl (mended-sound t r) }
  destroying-cut (suc n) =
      record {
        once = rw (stores-are t h c k) (razed-once (run (lay t h blank) ss) long each);
        lands = inr (rw (end_is t h c k) (rw (stores-are t h c k) (razed-mends (run (lay t h blank) ss) long each)));
      }
    where
      ss : List Store
      ss = take n (post t h c k)

      long : length (run (lay t h blank) ss) ≡ length t
      long = length_run (lay t h blank) ss ∙ length-lay t h blank

      each : (i : ℕ) → i < rooms t → Tidy (rec (m t h c k) i) (rec (f t h c k) i) (rec (run (lay t h blank) ss) i)
      each i l =
          unfold m in
          tidied (f t h c k) (m t h c k) ss (tidy-rids (f t h c k) (m t h c k) ss (every_take _ n (post t h c k) (rids t h c k))) i (rw (rooms-m t h c k) l)

-- one name of a DST whose checks pass, cut anywhere
abbrev Cuts : List ℕ → Planned → Type 0
Cuts t (plan p) = verdict p.checks ≡ passed → (n : ℕ) → Cut t p.stores n
Cuts t (halted f) = Unit {0}

dst-cuts : (t : List ℕ) → Right t → (u place : ℕ) (name : Word) → Cuts t (dst_plan boxed t u place name)
unfolding dst_plan
dst-cuts t r u place name =
    end_by (Cuts t) place (λ _ _ _. tt) t u name _ (λ d f _ q v.
    let e = last-looked t d (chain_of name) f q in
    destroying-cut t (file t f) r (r.clauses.targets f.entry e.within e.stands.kind) (verdict-idle _ v).1.0)

pub passed-razed : (t : List ℕ) → Right t → (u place : ℕ) (name : Word) (p : Plan) → Passed (dst_plan boxed t u place name) p → (n : ℕ) → Cut t p.stores n
passed-razed t r u place name p v = let s : Cuts t (plan p) = rw v.plan at (dst-cuts t r u place name) in s v.checks
