-- Two tables that show the same, record for record, and stores that lay twins in the same places: what a scan by a test finds, counts or lists
-- is the same on both, because the test is; and twins stay twins under such stores, because a store lays one record and leaves the others.
use mathlib.Core.Bool.{Bool, true}
use mathlib.Core.List.{List, [], ◌∷◌, ◌++◌, map}
use mathlib.Core.Logic.{◌≢◌, by_cases}
use mathlib.Core.Path.{◌≡◌, refl, sym, ap, ◌∙◌}
use Prim.Native.Nat.{ℕ, zero, suc, ◌≤◌, ◌<◌}
use native.Mathlib.Omega.{arith}
use native.Mathlib.Decide.{ℕ_discrete, dec_lt}
use lib.ListN.{length, take}
use Rattle.paper.specs.Scan.{all_below, any_below, count_below, first_below, join_below, list_below, each_below}
use Rattle.paper.specs.Record.{byte, blank}
use Rattle.paper.specs.Layout.{Layout}
use Rattle.paper.specs.Table.{rooms, rec, lay}
use Rattle.paper.specs.Store.{Store, puts, clear, fills, clears, run}
use Rattle.laws.proofs.Scans.{all-cong, any-cong, first_cong}
use Rattle.laws.proofs.Counts.{count-cong}
use Rattle.laws.proofs.Lists.{Every, every-imp, list-cong, every-below}
use Rattle.laws.proofs.Lay.{Whole, rec-past, length-lay, rooms-lay, lay-same, lay-other, length-blank, kind-blank}
use Rattle.layouts.proofs.Twin.{Twin, plain, entry}

-- ---- tables

pub record Twins (A B : Layout) (t s : List ℕ) : Type 0 where
  pub size : length t ≡ length s
  pub whole : Whole t
  pub each : (i : ℕ) → Twin A B (rec t i) (rec s i)

-- the records that the tables have are enough: past them there is nothing
pub twins-by : {A B : Layout} {t s : List ℕ} → length t ≡ length s → Whole t → ((i : ℕ) → i < rooms t → Twin A B (rec t i) (rec s i)) → Twins A B t s
twins-by {A} {B} {t} {s} e w h = record { size = e; whole = w; each = at }
  where
    v : Whole s
    v = rw e at w

    none : (i : ℕ) → rooms t ≤ i → byte (rec t i) 0 ≢ 2
    none i l q = let z : ◌≡◌ {A = ℕ} 0 2 = (rw (rec-past t i w l) at q) in omega arith

    at : (i : ℕ) → Twin A B (rec t i) (rec s i)
    at i =
        by_cases (dec_lt i (rooms t)) (λ (l : i < rooms t). h i l)
        (λ (l : ¬ (i < rooms t)).
        plain (none i (omega arith)) (rec-past t i w (omega arith) ∙ sym (rec-past s i v (rw (← e) (omega arith)))))

module _ {A B : Layout} {t s : List ℕ} (w : Twins A B t s) where
  pub same-rooms : rooms t ≡ rooms s
  same-rooms = rw w.size

  pub whole-other : Whole s
  whole-other = rw w.size at w.whole

  -- a scan of the records, by a test that is the same on twins
  module _ (p q : ℕ → List ℕ → Bool) (h : (i : ℕ) → p i (rec t i) ≡ q i (rec s i)) where
    pub any-twin : any_below (λ i. p i (rec t i)) (rooms t) ≡ any_below (λ i. q i (rec s i)) (rooms s)
    any-twin = rw w.size (any-cong (λ i. p i (rec t i)) (λ i. q i (rec s i)) (rooms s) (λ i _. h i))

    pub all-twin : all_below (λ i. p i (rec t i)) (rooms t) ≡ all_below (λ i. q i (rec s i)) (rooms s)
    all-twin = rw w.size (all-cong (λ i. p i (rec t i)) (λ i. q i (rec s i)) (rooms s) (λ i _. h i))

    pub count-twin : count_below (λ i. p i (rec t i)) (rooms t) ≡ count_below (λ i. q i (rec s i)) (rooms s)
    count-twin = rw w.size (count-cong (λ i. p i (rec t i)) (λ i. q i (rec s i)) (rooms s) (λ i _. h i))

    pub first-twin : first_below (λ i. p i (rec t i)) (rooms t) ≡ first_below (λ i. q i (rec s i)) (rooms s)
    first-twin = rw w.size (first_cong (λ i. p i (rec t i)) (λ i. q i (rec s i)) (rooms s) (λ i _. h i))

    pub list-twin : list_below (λ i. p i (rec t i)) (rooms t) ≡ list_below (λ i. q i (rec s i)) (rooms s)
    list-twin = rw w.size (list-cong (λ i. p i (rec t i)) (λ i. q i (rec s i)) (rooms s) (λ i _. h i))

-- ---- stores

-- the same place, and twins of 32 bytes laid there
pub record Lays (A B : Layout) (a b : Store) : Type 0 where
  pub place : a.at ≡ b.at
  pub size : length a.bytes ≡ 32
  pub twin : Twin A B a.bytes b.bytes

-- one by one
pub data Alike (A B : Layout) : List Store → List Store → Type 0 where
  none : Alike A B [] []
  more : {a b : Store} {xs ys : List Store} → Lays A B a b → Alike A B xs ys → Alike A B (a ∷ xs) (b ∷ ys)

module _ {A B : Layout} where
  -- a record that is no entry
  pub both : (i : ℕ) (r : List ℕ) → length r ≡ 32 → byte r 0 ≢ 2 → Lays A B (puts i r) (puts i r)
  both i r e n = record { place = refl; size = e; twin = plain n refl }

  pub both-clear : (i : ℕ) → Lays A B (clear i) (clear i)
  both-clear i = both i blank length-blank (λ e. let z : byte blank 0 ≡ 0 = kind-blank blank refl in omega arith)

  pub twin-size : {r q : List ℕ} → Twin A B r q → length r ≡ 32 → length q ≡ 32
  twin-size (plain n e) l = rw e at l
  twin-size (entry name k f a b) l = b.size

  pub lay-twins : {t s : List ℕ} (a b : Store) → Lays A B a b → Twins A B t s → Twins A B (lay t a.at a.bytes) (lay s b.at b.bytes)
  lay-twins {t} {s} a b h w =
      twins-by (length-lay t a.at a.bytes ∙ w.size ∙ sym (length-lay s b.at b.bytes)) (rw length-lay w.whole)
      (λ i l.
      let m : i < rooms t = rw rooms-lay at l in
      let n : i < rooms s = rw w.size at m in
      by_cases (ℕ_discrete i a.at)
      (λ (q : i ≡ a.at).
      let x : rec (lay t a.at a.bytes) i ≡ a.bytes = rw q (lay-same t a.at a.bytes h.size (rw (← q) m)) in
      let y : rec (lay s b.at b.bytes) i ≡ b.bytes =
      rw (q, h.place) (lay-same s b.at b.bytes (twin-size h.twin h.size) (rw (← h.place, ← q) n)) in
      rw (x, y) h.twin)
      (λ (q : i ≢ a.at).
      let x : rec (lay t a.at a.bytes) i ≡ rec t i = lay-other t a.at a.bytes i h.size q m in
      let y : rec (lay s b.at b.bytes) i ≡ rec s i =
      lay-other s b.at b.bytes i (twin-size h.twin h.size) (λ (z : i ≡ b.at). q (z ∙ sym h.place)) n in
      rw (x, y) (w.each i)))

  pub run-twins : {t s : List ℕ} {xs ys : List Store} → Alike A B xs ys → Twins A B t s → Twins A B (run t xs) (run s ys)
  unfolding run
  run-twins none w = w
  run-twins {t = t} {s = s} (more {a = a} {b = b} h k) w =
      run-twins {t = lay t a.at a.bytes} {s = lay s b.at b.bytes} k (lay-twins a b h w)

  pub alike-length : {xs ys : List Store} → Alike A B xs ys → length xs ≡ length ys
  alike-length none = refl
  alike-length (more h k) = ap suc (alike-length k)

  pub alike-append : {xs ys cs ds : List Store} → Alike A B xs ys → Alike A B cs ds → Alike A B (xs ++ cs) (ys ++ ds)
  alike-append none l = l
  alike-append (more h k) l = more h (alike-append k l)

  pub alike-take : (n : ℕ) {xs ys : List Store} → Alike A B xs ys → Alike A B (take n xs) (take n ys)
  alike-take zero k = none
  alike-take (suc n) none = none
  alike-take (suc n) (more h k) = more h (alike-take n k)

  alike-map : (f g : ℕ → Store) (is : List ℕ) → Every (λ i. Lays A B (f i) (g i)) is → Alike A B (map f is) (map g is)
  alike-map f g [] h = none
  alike-map f g (i ∷ is) h = more h.0 (alike-map f g is h.1)

  -- one for each number
  pub alike-each : (f g : ℕ → Store) (n : ℕ) → ((i : ℕ) → i < n → Lays A B (f i) (g i)) → Alike A B (each_below f n) (each_below g n)
  unfolding join_below
  alike-each f g zero h = none
  alike-each f g (suc n) h = alike-append (alike-each f g n (λ i l. h i (omega arith))) (more (h n (omega arith)) none)

  -- one for each number that passes
  pub alike-fills : (p q : ℕ → Bool) (b c : ℕ → List ℕ) (n : ℕ) → ((i : ℕ) → i < n → p i ≡ q i)
      → ((i : ℕ) → i < n → p i ≡ true → Lays A B (puts i (b i)) (puts i (c i))) → Alike A B (fills p b n) (fills q c n)
  unfolding fills
  alike-fills p q b c n e h =
      rw (← (list-cong p q n e))
      (alike-map (λ i. puts i (b i)) (λ i. puts i (c i)) (list_below p n)
      (every-imp (λ i. (i < n) × (p i ≡ true)) (λ i. Lays A B (puts i (b i)) (puts i (c i))) (list_below p n) (λ i k. h i k.0 k.1) (every-below p n)))

  pub alike-clears : (p q : ℕ → Bool) (n : ℕ) → ((i : ℕ) → i < n → p i ≡ q i) → Alike A B (clears p n) (clears q n)
  alike-clears p q n e = alike-fills p q (λ _. blank) (λ _. blank) n e (λ i _ _. both-clear i)
