-- What the stores of any request are, on a sound table: new records on free ones, an entry laid again or cleared, a heading with more
-- inhibited and write not inhibited before, or with other counts, a file rewritten; and then, at most, one file freed that no entry names.
-- Only a DST clears a heading first, and that is one with write not inhibited.
use mathlib.Core.Bool.{Bool, true, false}
use mathlib.Core.List.{List, ◌∷◌, ◌++◌}
use mathlib.Core.Logic.{◌⊎◌, inl, inr, ◌≢◌, by_cases, ⊎_elim}
use mathlib.Core.Path.{◌≡◌, refl, ◌∙◌}
use Prim.Native.Nat.{ℕ, zero, suc, ◌-◌, ◌≤◌, ◌<◌}
use native.Mathlib.Omega.{arith}
use native.Mathlib.Decide.{dec_le, ℕ_discrete}
use lib.ListN.{length, take}
use lib.Seq.{take-append-le}
use borrow.Author.Tests.{ne_eqb}
use Rattle.paper.specs.Scan.{each_below}
use Rattle.paper.specs.Record.{byte, heading_code, heading_of, rewritten, blank}
use Rattle.paper.specs.Table.{rooms, rec, lay, text_room}
use Rattle.paper.specs.Code.{no_write, lacks}
use Rattle.paper.specs.Entry.{named}
use Rattle.paper.specs.Block.{blocks_of}
use Rattle.paper.specs.Store.{Store, clear, run}
use Rattle.paper.specs.Effect.{freed, recoded}
use Rattle.laws.proofs.Tests.{not-both, false-by}
use Rattle.laws.proofs.Lists.{Every, every_take, every-each, take_past}
use Rattle.laws.proofs.Lay.{Whole, lay-same, lay-other, rooms-lay, length-lay, length-blank, within, kind-blank}
use Rattle.laws.proofs.Runs.{Lays, run-each, run-append, length_run, rooms-run}
use Rattle.demands.proofs.Sound.Clauses.{Sound}
use Rattle.demands.proofs.SoundKept.Freed.{text-found}
use Rattle.demands.proofs.SoundKept.Retexted.{Mine}
use Rattle.demands.proofs.Mending.Part.{ButCounts, Alike, equal, Below, free, stays, Less}
use Rattle.demands.proofs.Mending.Counts.{alike-kind, alike_same}
use Rattle.demands.proofs.Mending.Less.{up_named}

-- r laid in record i of t, by any request
pub data Put (t : List ℕ) (i : ℕ) (r : List ℕ) : Type 0 where
  heading : byte (rec t i) 0 ≡ 0 → byte r 0 ≡ 1 → Put t i r
  text : byte (rec t i) 0 ≡ 0 → byte r 0 ≡ 3 → byte (rec t (heading_of r)) 0 ≡ 0 → Put t i r
  entry : (byte (rec t i) 0 ≡ 0) ⊎ (byte (rec t i) 0 ≡ 2) → byte r 0 ≡ 2 → Put t i r
  cleared : byte (rec t i) 0 ≡ 2 → r ≡ blank → Put t i r
  recodes : (code : ℕ) → code ≤ 7 → byte (rec t i) 0 ≡ 1 → no_write (heading_code (rec t i)) ≡ false → lacks code (heading_code (rec t i)) ≡ false
      → r ≡ recoded (rec t i) code → Put t i r
  -- a rewrite: a heading that may be written with another mark and length; text of it, or nothing, where text of it or nothing was
  rewrites : (mark n : ℕ) → n ≤ 24000 → byte (rec t i) 0 ≡ 1 → no_write (heading_code (rec t i)) ≡ false → r ≡ rewritten (rec t i) mark n → Put t i r
  retexts : (h : ℕ) → byte (rec t h) 0 ≡ 1 → no_write (heading_code (rec t h)) ≡ false → Mine h (rec t i) → Mine h r → Put t i r
  -- a heading with other counts, whoever may write it
  again : ButCounts (rec t i) r → Put t i r

abbrev pub Puts : List ℕ → Store → Type 0
Puts t = Lays (Put t) (rooms t)

-- record i of t is heading g or its text
abbrev pub Of : List ℕ → ℕ → ℕ → Type 0
Of t g i = (i ≡ g) ⊎ ((byte (rec t i) 0 ≡ 3) × (heading_of (rec t i) ≡ g))

-- heading g may be written, and is destroyed: only a DST does so
abbrev pub Open : Bool → List ℕ → ℕ → Type 0
Open razes t g = (razes ≡ true) × (no_write (heading_code (rec t g)) ≡ false)

-- the stores of a DST: a heading that may be written cleared, and then such stores, but for that heading, and clearings of its text
pub record Razing (t : List ℕ) (ss : List Store) : Type 0 where
  pub file : ℕ
  pub rest : List Store
  pub kind : byte (rec t file) 0 ≡ 1
  pub write : no_write (heading_code (rec t file)) ≡ false
  pub each : Every (Lays (λ i r. (i ≢ file) × (Put t i r ⊎ ((r ≡ blank) × Of t file i))) (rooms t)) rest
  pub is : ss ≡ clear file ∷ rest

-- the stores of a plan: such stores, and then perhaps heading g, which no entry names by then, freed with its text; or those of a DST
pub data Shaped (razes : Bool) (t : List ℕ) (ss : List Store) : Type 0 where
  plain : Every (Puts t) ss → Shaped razes t ss
  freeing : (main : List Store) (g : ℕ) → Every (Puts t) main → byte (rec t g) 0 ≡ 1 → named (run t main) g ≡ false → ss ≡ main ++ freed t g
      → Shaped razes t ss
  razing : razes ≡ true → Razing t ss → Shaped razes t ss

-- what is of a kind stayed, but for its counts, where s is t with some records cleared and some counts written anew
pub less-stays : (t s : List ℕ) → Whole t → Less t s → (i : ℕ) → byte (rec s i) 0 ≢ 0 → Alike (rec t i) (rec s i)
less-stays t s w d i n = go (d.each i (rw d.long at (within s i (rw d.long w) n)))
  where
    go : Below (rec t i) (rec s i) → Alike (rec t i) (rec s i)
    go (stays a) = a
    go (free e) = absurd (n (kind-blank (rec s i) e))

-- .. what is no heading, whole
pub less-same : (t s : List ℕ) → Whole t → Less t s → (i k : ℕ) → byte (rec s i) 0 ≡ suc (suc k) → rec s i ≡ rec t i
less-same t s w d i k e =
    let a = less-stays t s w d i (omega arith) in
    alike_same (rec t i) (rec s i) a (ne_eqb (byte (rec t i) 0) 1 (omega (arith, alike-kind (rec t i) (rec s i) a)))

-- .. and no name is brought
pub unnamed-still : (t s : List ℕ) (h : ℕ) → Whole t → Less t s → named t h ≡ false → named s h ≡ false
unnamed-still t s h w d n = false-by (named s h) (λ e. not-both (up_named t s w d h e) n)

-- ---- what such stores leave, cut anywhere

-- record i as it was, or laid
abbrev pub Kept : List ℕ → List ℕ → ℕ → Type 0
Kept t s i = (rec s i ≡ rec t i) ⊎ Put t i (rec s i)

-- no file freed, or the heading g cleared by now: no entry names it, or it could be written
pub data Left (razes : Bool) (t s : List ℕ) : Type 0 where
  stored : ((i : ℕ) → i < rooms t → Kept t s i) → Left razes t s
  rid : (g : ℕ) → byte (rec t g) 0 ≡ 1 → rec s g ≡ blank → (named s g ≡ false) ⊎ Open razes t g
      → ((i : ℕ) → i < rooms t → Kept t s i ⊎ ((rec s i ≡ blank) × Of t g i)) → Left razes t s

module _ (t : List ℕ) (c : Sound t) (main : List Store) (laid : Every (Puts t) main) (g : ℕ) (k : byte (rec t g) 0 ≡ 1) where
  m : List ℕ
  m = run t main

  rooms-m : rooms m ≡ rooms t
  unfolding m
  rooms-m = rooms-run t main

  whole-m : Whole m
  unfolding m
  whole-m = rw (length_run t main) c.whole

  in_g : g < rooms t
  in_g = within t g c.whole (omega arith)

  texts : List Store
  texts = each_below (λ p. clear (text_room t g p)) (blocks_of t g)

  -- clearings of the file's records
  clears-texts : Every (Lays (λ i x. (x ≡ blank) × Of t g i) (rooms t)) texts
  unfolding texts
  clears-texts =
      every-each _ _ (blocks_of t g) (λ p b.
      let f = text-found 65535 t g c k p b in
      record { within = f.0; size = length-blank; holds = (refl, inr (f.1.kind, f.1.heading)) })

  -- the heading cleared, and j of the text's records
  s : ℕ → List ℕ
  s j = run (lay m g blank) (take j texts)

  rooms-g : rooms (lay m g blank) ≡ rooms t
  rooms-g = rooms-lay m g blank ∙ rooms-m

  cleared-each : (j i : ℕ) → i < rooms t → (rec (s j) i ≡ rec (lay m g blank) i) ⊎ ((rec (s j) i ≡ blank) × Of t g i)
  unfolding s
  cleared-each j i l =
      run-each (λ i x. (x ≡ blank) × Of t g i) (lay m g blank) (take j texts) (every_take _ j texts (rw rooms-g clears-texts)) i (rw rooms-g l)

  heading-gone : (j : ℕ) → rec (s j) g ≡ blank
  heading-gone j = go (cleared-each j g in_g)
    where
      go : (rec (s j) g ≡ rec (lay m g blank) g) ⊎ ((rec (s j) g ≡ blank) × Of t g g) → rec (s j) g ≡ blank
      go (inl e) = e ∙ lay-same m g blank length-blank (rw rooms-m in_g)
      go (inr e) = e.0

  from-m : (j i : ℕ) → i < rooms t → (rec (s j) i ≡ rec m i) ⊎ ((rec (s j) i ≡ blank) × Of t g i)
  from-m j i l =
      by_cases (ℕ_discrete i g) (λ (q : i ≡ g). inr (rw q (heading-gone j), inl q)) (λ (q : i ≢ g). go q (cleared-each j i l))
    where
      go : i ≢ g → (rec (s j) i ≡ rec (lay m g blank) i) ⊎ ((rec (s j) i ≡ blank) × Of t g i)
          → (rec (s j) i ≡ rec m i) ⊎ ((rec (s j) i ≡ blank) × Of t g i)
      go q (inl e) = inl (e ∙ lay-other m g blank i length-blank q (rw rooms-m l))
      go q (inr e) = inr e

  at-m : (i : ℕ) → i < rooms t → Kept t m i
  unfolding m
  at-m i l = run-each (Put t) t main laid i l

  lessened : (j : ℕ) → Less m (s j)
  unfolding s
  lessened j =
      record {
        long = length_run (lay m g blank) (take j texts) ∙ length-lay m g blank;
        each = λ i l. ⊎_elim (λ e. stays (equal e)) (λ e. free e.0) (from-m j i (rw rooms-m at l));
      }

  freed-left : {razes : Bool} → named m g ≡ false → (j : ℕ) → Left razes t (s j)
  freed-left n j = rid g k (heading-gone j) (inl (unnamed-still m (s j) g whole-m (lessened j) n)) (λ i l. go i (at-m i l) (from-m j i l))
    where
      go : (i : ℕ) → Kept t m i → (rec (s j) i ≡ rec m i) ⊎ ((rec (s j) i ≡ blank) × Of t g i) → Kept t (s j) i ⊎ ((rec (s j) i ≡ blank) × Of t g i)
      go i a (inr e) = inr e
      go i a (inl e) = inl (rw e a)

  run-freed : (j : ℕ) → run m (take (suc j) (freed t g)) ≡ s j
  unfolding freed run s texts
  run-freed j = refl

-- a DST: the heading cleared, and some of the stores after it
module _ (t : List ℕ) (c : Sound t) (g : ℕ) (k : byte (rec t g) 0 ≡ 1) (ss : List Store)
    (h : Every (Lays (λ i r. (i ≢ g) × (Put t i r ⊎ ((r ≡ blank) × Of t g i))) (rooms t)) ss) where
  abbrev after : List ℕ
  after = run (lay t g blank) ss

  razed-each : (i : ℕ) → i < rooms t → (rec after i ≡ rec (lay t g blank) i) ⊎ ((i ≢ g) × (Put t i (rec after i) ⊎ ((rec after i ≡ blank) × Of t g i)))
  razed-each i l =
      run-each (λ i r. (i ≢ g) × (Put t i r ⊎ ((r ≡ blank) × Of t g i))) (lay t g blank) ss (rw (rooms-lay t g blank) h) i (rw (rooms-lay t g blank) l)

  razed-heading : rec after g ≡ blank
  razed-heading = go (razed-each g (within t g c.whole (omega arith)))
    where
      go : (rec after g ≡ rec (lay t g blank) g) ⊎ ((g ≢ g) × (Put t g (rec after g) ⊎ ((rec after g ≡ blank) × Of t g g))) → rec after g ≡ blank
      go (inl e) = e ∙ lay-same t g blank length-blank (within t g c.whole (omega arith))
      go (inr x) = absurd (x.0 refl)

  pub razed-kept : (i : ℕ) → i < rooms t → Kept t after i ⊎ ((rec after i ≡ blank) × Of t g i)
  razed-kept i l =
      by_cases (ℕ_discrete i g) (λ (q : i ≡ g). inr (rw q razed-heading, inl q)) (λ (q : i ≢ g). go q (razed-each i l))
    where
      go : i ≢ g → (rec after i ≡ rec (lay t g blank) i) ⊎ ((i ≢ g) × (Put t i (rec after i) ⊎ ((rec after i ≡ blank) × Of t g i)))
          → Kept t after i ⊎ ((rec after i ≡ blank) × Of t g i)
      go q (inl e) = inl (inl (e ∙ lay-other t g blank i length-blank q l))
      go q (inr x) = ⊎_elim (λ p. inl (inr p)) inr x.1

-- cut after k stores
pub shaped-left : (razes : Bool) (t : List ℕ) → Sound t → (ss : List Store) → Shaped razes t ss → (k : ℕ) → Left razes t (run t (take k ss))
unfolding run
shaped-left b t c ss (plain h) k = stored (run-each (Put t) t (take k ss) (every_take _ k ss h))
shaped-left b t c ss (razing z r) zero = stored (λ i l. inl refl)
shaped-left b t c ss (razing z r) (suc j) =
    let d = every_take _ j r.rest r.each in
    let s : List Store = take j r.rest in
    rw r.is (rid r.file r.kind (razed-heading t c r.file r.kind s d) (inr (z, r.write)) (razed-kept t c r.file r.kind s d))
shaped-left b t c ss (freeing main g h q n e) k =
    rw e
    (by_cases (dec_le k (length main))
    (λ (l : k ≤ length main). rw (take-append-le k main) (stored (run-each (Put t) t (take k main) (every_take _ k main h))))
    (λ (l : ¬ (k ≤ length main)).
    rw (take_past k main (freed t g) (omega arith), run-append) (past (k - length main) (k - length main - 1) (omega arith))))
  where
    past : (a j : ℕ) → a ≡ suc j → Left b t (run (run t main) (take a (freed t g)))
    past a j z = unfold m in rw (z, run-freed t c main h g q j) (freed-left t c main h g q n j)
