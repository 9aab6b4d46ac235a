-- What a DST does to each record, cut or not: its first store clears the heading, and each store after it clears text of the file, an entry
-- that names it, or lays a heading with other counts. So an entry that is gone named a heading that is gone.
use mathlib.Core.Bool.{Bool, true, false, cond}
use mathlib.Core.List.{List}
use mathlib.Core.Logic.{inl, inr, ◌≢◌, by_cases}
use mathlib.Core.Path.{◌≡◌, refl, sym, ap, ◌∙◌}
use Prim.Native.Nat.{ℕ, zero, suc, ◌<◌}
use native.Mathlib.Omega.{arith}
use native.Mathlib.Decide.{ℕ_discrete}
use lib.ListN.{length, take}
use borrow.Author.Tests.{ne_eqb}
use Rattle.paper.specs.Record.{byte, heading_named, blank}
use Rattle.paper.specs.Layout.{boxed}
use Rattle.paper.specs.Table.{rooms, rec}
use Rattle.paper.specs.Line.{Word}
use Rattle.paper.specs.Check.{passed, verdict}
use Rattle.paper.specs.Walk.{file}
use Rattle.paper.specs.Store.{Store, run}
use Rattle.paper.specs.Effect.{Plan, Planned, plan, halted, chain_of, with_counts, destroying, dst_plan}
use Rattle.laws.proofs.Lists.{every_take}
use Rattle.laws.proofs.Entries.{names-heading}
use Rattle.laws.proofs.Lay.{length-lay, kind-blank, kinds-apart}
use Rattle.laws.proofs.Runs.{length_run}
use Rattle.demands.proofs.Sound.Clauses.{Sound}
use Rattle.demands.proofs.Request.Steps.{last-looked, end_by}
use Rattle.demands.proofs.Request.Ended.{Passed}
use Rattle.demands.proofs.SoundKept.Freed.{file_of, gone_of}
use Rattle.demands.proofs.Mending.Part.{Alike}
use Rattle.demands.proofs.Mending.Counts.{alike-kind, alike_same, is-blank, recounts-each}
use Rattle.demands.proofs.Mending.Again.{Tidy, tidied}
use Rattle.demands.proofs.PowerCut.Cut.{tidy-rids}
use Rattle.demands.proofs.PowerCut.Razing as razing

-- record i: as it was; no entry, before and after; or an entry cleared, and with it the heading that it named
pub data Razed (t s : List ℕ) (i : ℕ) : Type 0 where
  still : rec s i ≡ rec t i → Razed t s i
  other : byte (rec t i) 0 ≢ 2 → byte (rec s i) 0 ≢ 2 → Razed t s i
  gone : rec s i ≡ blank → heading_named (rec t i) < rooms t → rec s (heading_named (rec t i)) ≡ blank → Razed t s i

pub record Destroys (t s : List ℕ) : Type 0 where
  pub long : length s ≡ length t
  pub each : (i : ℕ) → i < rooms t → Razed t s i
  -- what is free stays free
  pub free : (i : ℕ) → i < rooms t → rec t i ≡ blank → rec s i ≡ blank

pub destroys-none : (t : List ℕ) → Destroys t t
destroys-none t = record { long = refl; each = λ i l. still refl; free = λ i l e. e }

pub destroys-more : (t m s : List ℕ) → Destroys t m → Destroys m s → Destroys t s
destroys-more t m s a b =
    record {
      long = b.long ∙ a.long;
      each = λ i l. go i l (a.each i l) (b.each i (rw a.long l));
      free = λ i l e. b.free i (rw a.long l) (a.free i l e);
    }
  where
    go : (i : ℕ) → i < rooms t → Razed t m i → Razed m s i → Razed t s i
    go i l (still e) (still q) = still (q ∙ e)
    go i l (still e) (other q r) = other (rw e at q) r
    go i l (still e) (gone z w q) = gone z (rw (e, a.long) at w) (rw e at q)
    go i l (other e f) (still q) = other e (rw q f)
    go i l (other e f) (other q r) = other e r
    go i l (other e f) (gone z w q) = other e (λ (y : byte (rec s i) 0 ≡ 2). omega (arith, kind-blank (rec s i) z))
    go i l (gone z w q) x = gone (b.free i (rw a.long l) z) w (b.free (heading_named (rec t i)) (rw a.long w) q)

-- ---- one name

module _ (t : List ℕ) (h : ℕ) (c : Sound t) (k : byte (rec t h) 0 ≡ 1) where
  abbrev m : List ℕ
  m = razing.m t h c k

  abbrev f : List ℕ
  f = razing.f t h c k

  -- the heading cleared, and some of the stores after it
  abbrev x : ℕ → List ℕ
  x j = run m (take j (razing.post t h c k))

  each-tidy : (j i : ℕ) → i < rooms t → Tidy (rec m i) (rec f i) (rec (x j) i)
  each-tidy j i l =
      let ss : List Store = take j (razing.post t h c k) in
      tidied f m ss (tidy-rids f m ss (every_take _ j (razing.post t h c k) (razing.rids t h c k))) i (rw (razing.rooms-m t h c k) l)

  tidy-blank : (r y z : List ℕ) → r ≡ blank → Tidy r y z → z ≡ blank
  tidy-blank r y z e (inl a) = is-blank z (rw e at a)
  tidy-blank r y z e (inr b) = b.0

  heading-gone : (j : ℕ) → rec (x j) h ≡ blank
  heading-gone j = tidy-blank (rec m h) (rec f h) (rec (x j) h) (razing.at-h t h c k) (each-tidy j h (razing.in-h t h c k))

  -- an entry that is free at the end names the heading
  was-named : (i : ℕ) → i < rooms t → byte (rec t i) 0 ≡ 2 → rec f i ≡ blank → heading_named (rec t i) ≡ h
  was-named i l e z = go (gone_of t h i) refl (razing.in_g t h c k i l)
    where
      g : List ℕ
      g = razing.g t h c k

      alike : Alike (rec g i) (rec f i)
      alike = unfold razing.f in recounts-each g i (rw (razing.rooms-g t h c k) l)

      no-file : file_of t h i ≡ false
      no-file = rw (ne_eqb i h (kinds-apart t i h 2 1 e k (omega arith)), e)

      go : (b : Bool) → gone_of t h i ≡ b → rec g i ≡ cond b blank (rec t i) → heading_named (rec t i) ≡ h
      go true n q = names-heading h (rec t i) (rw no-file at n)
      go false n q =
          let y : ⊥ = omega (arith, kind-blank (rec f i) z, alike-kind (rec g i) (rec f i) alike, e, ap (λ (r : List ℕ). byte r 0) q) in
          absurd y

  away : (j i : ℕ) → i < rooms t → rec m i ≡ rec t i → Tidy (rec m i) (rec f i) (rec (x j) i) → Razed t (x j) i
  away j i l s y = by_cases (ℕ_discrete (byte (rec t i) 0) 2) (entries y) (others y)
    where
      entries : Tidy (rec m i) (rec f i) (rec (x j) i) → byte (rec t i) 0 ≡ 2 → Razed t (x j) i
      entries (inl a) e = still (alike_same (rec m i) (rec (x j) i) a (rw (s, e)) ∙ s)
      entries (inr b) e =
          let q : heading_named (rec t i) ≡ h = was-named i l e b.1 in
          gone b.0 (rw q (razing.in-h t h c k)) (rw q (heading-gone j))

      others : Tidy (rec m i) (rec f i) (rec (x j) i) → byte (rec t i) 0 ≢ 2 → Razed t (x j) i
      others (inl a) d = other d (λ z. d (sym (alike-kind (rec m i) (rec (x j) i) a ∙ rw s) ∙ z))
      others (inr b) d = other d (λ (z : byte (rec (x j) i) 0 ≡ 2). omega (arith, kind-blank (rec (x j) i) b.0))

  razed-after : (j : ℕ) → Destroys t (x j)
  razed-after j = record { long = length_run m _ ∙ (unfold razing.m in length-lay t h blank); each = at; free = frees }
    where
      at : (i : ℕ) → i < rooms t → Razed t (x j) i
      at i l =
          by_cases (ℕ_discrete i h)
          (λ (q : i ≡ h). other (λ (z : byte (rec t i) 0 ≡ 2). omega (arith, rw q at z, k))
          (λ (z : byte (rec (x j) i) 0 ≡ 2). omega (arith, rw q at z, kind-blank (rec (x j) h) (heading-gone j))))
          (λ (d : i ≢ h). away j i l (razing.elsewhere t h c k i l d) (each-tidy j i l))

      frees : (i : ℕ) → i < rooms t → rec t i ≡ blank → rec (x j) i ≡ blank
      frees i l e =
          by_cases (ℕ_discrete i h) (λ (q : i ≡ h). rw q (heading-gone j))
          (λ (d : i ≢ h). tidy-blank (rec m i) (rec f i) (rec (x j) i) (razing.elsewhere t h c k i l d ∙ e) (each-tidy j i l))

  -- cut after j stores
  razes : (j : ℕ) → Destroys t (run t (take j (with_counts t (destroying t h))))
  unfolding run
  razes zero = destroys-none t
  razes (suc j) = rw (razing.stores-are t h c k) (unfold razing.m in razed-after j)

-- the stores of a plan whose checks pass, cut anywhere
abbrev Razes : List ℕ → Planned → Type 0
Razes t (plan p) = verdict p.checks ≡ passed → (j : ℕ) → Destroys t (run t (take j p.stores))
Razes t (halted f) = Unit {0}

pub passed-razes : (t : List ℕ) (x : Planned) (p : Plan) → Razes t x → Passed x p → (j : ℕ) → Destroys t (run t (take j p.stores))
passed-razes t x p h v = let s : Razes t (plan p) = rw v.plan at h in s v.checks

pub dst-razes : (t : List ℕ) → Sound t → (u place : ℕ) (name : Word) → Razes t (dst_plan boxed t u place name)
unfolding dst_plan
dst-razes t c u place name =
    end_by (Razes t) place (λ _ _ _. tt) t u name _ (λ d f _ q _.
    let e = last-looked t d (chain_of name) f q in
    razes t (file t f) c (c.targets f.entry e.within e.stands.kind))
