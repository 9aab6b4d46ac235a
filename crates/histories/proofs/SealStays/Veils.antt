-- Two tables that differ at most in the text bytes of heading h: every test that the definitions make of a record gives the same, since
-- a text record is told by its first 8 bytes, and an entry, a heading and a free record are the same in both.
use mathlib.Core.Bool.{Bool, true, false, ◌&&◌, not}
use mathlib.Core.List.{List, [], ◌∷◌, ◌++◌, map}
use mathlib.Core.Logic.{◌≢◌, by_cases}
use mathlib.Core.Path.{◌≡◌, refl, sym, ap, ◌∙◌}
use Prim.Native.Nat.{ℕ, zero, suc, ◌+◌, ◌≤◌, ◌<◌}
use native.Mathlib.Omega.{arith}
use native.Mathlib.Decide.{ℕ_discrete, dec_lt}
use lib.ListN.{length, take}
use lib.Seq.{get_or-take}
use borrow.Author.Tests.{eqb-true}
use Rattle.paper.specs.Number.{number_at}
use Rattle.paper.specs.Scan.{Found, at, nowhere, first_below, list_below}
use Rattle.paper.specs.Record.{byte, is_kind, holder_of, heading_named, heading_of, directory, simple, names, text_at}
use Rattle.paper.specs.Layout.{boxed}
use Rattle.paper.specs.Table.{rooms, rec, lay, frees, place, text_room}
use Rattle.paper.specs.Entry.{Holder, stands, bears, find, crowd, full, named, in_directory, peopled}
use Rattle.paper.specs.Store.{Store, puts, fills, clears, run}
use Rattle.paper.specs.Count.{namings, counts_right, recounted, untrue, recounts}
use Rattle.paper.specs.Mend.{anchored, adrift, keeps_text, orphan, stray, wiped, mend_first, mend_second, mend_third, after₁, after₂, round_stores, round, rounds_stores, clear_stores, cleared, mend_stores}
use Rattle.paper.specs.Sweep.{reached_in, reached, lost_entry, lost_heading, lost_text, sweep_clears, live, sweep_stores}
use Rattle.laws.proofs.Tests.{and_left}
use Rattle.laws.proofs.Numbers.{number-cong}
use Rattle.laws.proofs.Scans.{any-cong, first_cong}
use Rattle.laws.proofs.Counts.{count-cong}
use Rattle.laws.proofs.Lists.{Every, every-imp, every_append, every-below, list-cong}
use Rattle.laws.proofs.Lay.{Whole, lay-same, length-lay}
use Rattle.laws.proofs.Runs.{length_run}
use Rattle.demands.proofs.Mending.Wipe.{Blanks, every-clears}
use Rattle.histories.proofs.Calls.Anywhere.{Fits, lays-fit, lay-past, rec-apart}

-- the same record, or text of h in both, of which all but the bytes 8-31 is the same
pub data Veiled (h : ℕ) (a b : List ℕ) : Type 0 where
  same : b ≡ a → Veiled h a b
  text : byte a 0 ≡ 3 → heading_of a ≡ h → take 8 b ≡ take 8 a → Veiled h a b

pub record Veil (h : ℕ) (t s : List ℕ) : Type 0 where
  pub long : length s ≡ length t
  pub each : (i : ℕ) → Veiled h (rec t i) (rec s i)

front : (a b : List ℕ) → take 8 b ≡ take 8 a → (j : ℕ) → j < 8 → byte b j ≡ byte a j
front a b e j l = sym (get_or-take 8 b j 0 l) ∙ rw e (get_or-take 8 a j 0 l)

-- the same records pass, and the same is laid in each
map_same : (f g : ℕ → Store) (xs : List ℕ) → Every (λ i. f i ≡ g i) xs → map f xs ≡ map g xs
map_same f g [] h = refl
map_same f g (x ∷ xs) h = rw (h.0, map_same f g xs h.1)

pub fills-cong : (p q : ℕ → Bool) (a b : ℕ → List ℕ) (m n : ℕ) → m ≡ n → ((i : ℕ) → p i ≡ q i) → ((i : ℕ) → q i ≡ true → a i ≡ b i) → fills p a m ≡ fills q b n
unfolding fills
fills-cong p q a b m n e f g =
    rw (e, list-cong p q n (λ i _. f i))
    (map_same (λ i. puts i (a i)) (λ i. puts i (b i)) (list_below q n) (every-imp _ _ (list_below q n) (λ i x. rw (g i x.1)) (every-below q n)))

module _ (h : ℕ) (t s : List ℕ) (v : Veil h t s) where
  pub rooms-veil : rooms s ≡ rooms t
  rooms-veil = rw v.long

  -- the first 8 bytes, and numbers of them
  pub byte-veil : (i j : ℕ) → j < 8 → byte (rec s i) j ≡ byte (rec t i) j
  byte-veil i j l = go (v.each i)
    where
      go : Veiled h (rec t i) (rec s i) → byte (rec s i) j ≡ byte (rec t i) j
      go (same e) = rw e
      go (text k q e) = front (rec t i) (rec s i) e j l

  pub number-veil : (w i j : ℕ) → j + w ≤ 8 → number_at w (rec s i) j ≡ number_at w (rec t i) j
  number-veil w i j l = number-cong w (rec s i) (rec t i) j j (λ a m. byte-veil i (j + a) (omega arith))

  pub named-veil : (i : ℕ) → heading_named (rec s i) ≡ heading_named (rec t i)
  named-veil i = number-veil 2 i 4 (omega arith)

  -- what is no text of h is the same
  pub rec-veil : (i : ℕ) → byte (rec t i) 0 ≢ 3 → rec s i ≡ rec t i
  rec-veil i n = go (v.each i)
    where
      go : Veiled h (rec t i) (rec s i) → rec s i ≡ rec t i
      go (same e) = e
      go (text k q e) = absurd (n k)

  pub text-veil : (i : ℕ) → heading_of (rec t i) ≢ h → rec s i ≡ rec t i
  text-veil i n = go (v.each i)
    where
      go : Veiled h (rec t i) (rec s i) → rec s i ≡ rec t i
      go (same e) = e
      go (text k q e) = absurd (n q)

  -- a test that no text record passes
  pub test-veil : (p : List ℕ → Bool) → ((r : List ℕ) → byte r 0 ≡ 3 → p r ≡ false) → (i : ℕ) → p (rec s i) ≡ p (rec t i)
  test-veil p n i = go (v.each i)
    where
      go : Veiled h (rec t i) (rec s i) → p (rec s i) ≡ p (rec t i)
      go (same e) = rw e
      go (text k q e) = n (rec s i) (byte-veil i 0 (omega arith) ∙ k) ∙ sym (n (rec t i) k)

  pub kind-veil : (k i : ℕ) → is_kind k (rec s i) ≡ is_kind k (rec t i)
  kind-veil k i = rw (byte-veil i 0 (omega arith))

  pub directory-veil : (i : ℕ) → directory (rec s i) ≡ directory (rec t i)
  directory-veil i = rw (byte-veil i 0 (omega arith), byte-veil i 1 (omega arith))

  pub simple-veil : (i : ℕ) → simple (rec s i) ≡ simple (rec t i)
  simple-veil i = rw (byte-veil i 0 (omega arith), byte-veil i 1 (omega arith))

  keeps-veil : (i : ℕ) → keeps_text (rec s i) ≡ keeps_text (rec t i)
  unfolding keeps_text
  keeps-veil i = rw (byte-veil i 0 (omega arith), byte-veil i 1 (omega arith), byte-veil i 5 (omega arith))

  pub stands-veil : (d : Holder) (i : ℕ) → stands d (rec s i) ≡ stands d (rec t i)
  unfolding stands
  stands-veil d = test-veil (stands d) (λ r k. rw k)

  pub bears-veil : (d : Holder) (n : List ℕ) (i : ℕ) → bears boxed d n (rec s i) ≡ bears boxed d n (rec t i)
  unfolding bears stands
  bears-veil d n = test-veil (bears boxed d n) (λ r k. rw k)

  pub names-veil : (g i : ℕ) → names g (rec s i) ≡ names g (rec t i)
  names-veil g = test-veil (names g) (λ r k. rw k)

  -- ---- scans

  pub find-veil : (d : Holder) (n : List ℕ) → find boxed s d n ≡ find boxed t d n
  unfolding find
  find-veil d n = rw rooms-veil (first_cong _ _ (rooms t) (λ i _. bears-veil d n i))

  crowd-veil : (d : Holder) → crowd s d ≡ crowd t d
  unfolding crowd
  crowd-veil d = rw rooms-veil (count-cong _ _ (rooms t) (λ i _. stands-veil d i))

  namings-veil : (g : ℕ) → namings s g ≡ namings t g
  unfolding namings
  namings-veil g = rw rooms-veil (count-cong _ _ (rooms t) (λ i _. names-veil g i))

  pub full-veil : (d : Holder) → full s d ≡ full t d
  full-veil d = rw (crowd-veil d)

  pub unnamed-veil : (g : ℕ) → named s g ≡ named t g
  unfolding named
  unnamed-veil g = rw rooms-veil (any-cong _ _ (rooms t) (λ i _. names-veil g i))

  pub peopled-veil : (g : ℕ) → peopled s g ≡ peopled t g
  unfolding peopled
  peopled-veil g = rw rooms-veil (any-cong _ _ (rooms t) (λ i _. stands-veil (in_directory g) i))

  pub frees-veil : frees s ≡ frees t
  unfolding frees
  frees-veil = rw rooms-veil (list-cong _ _ (rooms t) (λ i _. kind-veil 0 i))

  pub text-room-veil : (g p : ℕ) → text_room s g p ≡ text_room t g p
  unfolding text_room
  text-room-veil g p =
      rw (first_cong (λ i. text_at g p (rec s i)) (λ i. text_at g p (rec t i)) (rooms s) (λ i _. one i), rooms-veil)
      (placed (first_below (λ i. text_at g p (rec t i)) (rooms t)))
    where
      placed : (x : Found) → place s x ≡ place t x
      placed (at i) = refl
      placed nowhere = rooms-veil

      one : (i : ℕ) → text_at g p (rec s i) ≡ text_at g p (rec t i)
      one i = rw (byte-veil i 0 (omega arith), number-veil 2 i 2 (omega arith), number-veil 2 i 4 (omega arith))

  -- ---- counts: headings are the same, and as many entries name and stand in each

  right-veil : (i : ℕ) (r : List ℕ) → counts_right s i r ≡ counts_right t i r
  unfolding counts_right
  right-veil i r = rw (namings-veil i, crowd-veil (in_directory i))

  untrue-veil : (i : ℕ) → untrue s i ≡ untrue t i
  untrue-veil i = rw (kind-veil 1 i) (go (is_kind 1 (rec t i)) refl)
    where
      go : (b : Bool) → is_kind 1 (rec t i) ≡ b → (b && not (counts_right s i (rec s i))) ≡ (b && not (counts_right t i (rec t i)))
      go false e = refl
      go true e =
          let k : byte (rec t i) 0 ≡ 1 = eqb-true _ _ e in
          rw (rec-veil i (λ (z : byte (rec t i) 0 ≡ 3). omega arith), right-veil i (rec t i))

  recounted-veil : (i : ℕ) → untrue t i ≡ true → recounted s i (rec s i) ≡ recounted t i (rec t i)
  unfolding recounted
  recounted-veil i e =
      let k : byte (rec t i) 0 ≡ 1 = eqb-true _ _ (and_left (is_kind 1 (rec t i)) _ e) in
      rw (rec-veil i (λ (z : byte (rec t i) 0 ≡ 3). omega arith), namings-veil i, crowd-veil (in_directory i))

  pub recounts-veil : recounts s ≡ recounts t
  recounts-veil = fills-cong (untrue s) (untrue t) _ _ (rooms s) (rooms t) rooms-veil untrue-veil recounted-veil

-- ---- the same store on both

pub lay-veil : (h : ℕ) (t s : List ℕ) → Whole t → Veil h t s → (a : ℕ) (r : List ℕ) → length r ≡ 32 → Veil h (lay t a r) (lay s a r)
lay-veil h t s w v a r e = record { long = length-lay s a r ∙ v.long ∙ sym (length-lay t a r); each = each }
  where
    whole-s : Whole s
    whole-s = rw v.long w

    at_a : a < rooms t → Veiled h (rec (lay t a r) a) (rec (lay s a r) a)
    at_a l = same (rw (lay-same t a r e l, lay-same s a r e (rw (rooms-veil h t s v) l)))

    each : (i : ℕ) → Veiled h (rec (lay t a r) i) (rec (lay s a r) i)
    each i =
        by_cases (dec_lt a (rooms t))
        (λ (l : a < rooms t).
        by_cases (ℕ_discrete i a) (λ (q : i ≡ a). rw q (at_a l)) (λ (q : i ≢ a). rw (rec-apart t w a r e i q, rec-apart s whole-s a r e i q) (v.each i)))
        (λ (l : ¬ (a < rooms t)). rw (lay-past t a r w (omega arith), lay-past s a r whole-s (rw (rooms-veil h t s v) (omega arith))) (v.each i))

pub run-veil : (h : ℕ) (ss : List Store) (t s : List ℕ) → Whole t → Every Fits ss → Veil h t s → Veil h (run t ss) (run s ss)
unfolding run
run-veil h [] t s w q v = v
run-veil h (x ∷ ss) t s w q v =
    run-veil h ss (lay t x.at x.bytes) (lay s x.at x.bytes) (rw (length-lay t x.at x.bytes) w) q.1
    (lay-veil h t s w v x.at x.bytes q.0)

-- the counts after them
pub counts-veil : (h : ℕ) (t s : List ℕ) → Whole t → Veil h t s → (ss : List Store) → Every Fits ss → recounts (run s ss) ≡ recounts (run t ss)
counts-veil h t s w v ss q = recounts-veil h (run t ss) (run s ss) (run-veil h ss t s w q v)

-- ---- mending clears the same records of both, and writes the same counts

pub clears-fit : (p : ℕ → Bool) (n : ℕ) → Every Fits (clears p n)
clears-fit p n = lays-fit (Blanks p) n (clears p n) (every-clears p n)

-- a step clears the same records of both
clears-cong : (p q : ℕ → Bool) (m n : ℕ) → m ≡ n → ((i : ℕ) → p i ≡ q i) → clears p m ≡ clears q n
clears-cong p q m n e f = fills-cong p q _ _ m n e f (λ _ _. refl)

module _ (h : ℕ) (a b : List ℕ) (u : Veil h a b) where
  first-veil : mend_first b ≡ mend_first a
  unfolding anchored
  first-veil =
      clears-cong (adrift b) (adrift a) (rooms b) (rooms a) (rooms-veil h a b u)
      (λ i.
      rw (
        kind-veil h a b u 2 i,
        named-veil h a b u i,
        kind-veil h a b u 1 (heading_named (rec a i)),
        number-veil h a b u 2 i 2 (omega arith),
        kind-veil h a b u 1 (holder_of (rec a i)),
      ))

  second-veil : mend_second b ≡ mend_second a
  second-veil =
      clears-cong (orphan b) (orphan a) (rooms b) (rooms a) (rooms-veil h a b u) (λ i. rw (kind-veil h a b u 1 i, unnamed-veil h a b u i))

  third-veil : mend_third b ≡ mend_third a
  third-veil =
      clears-cong (stray b) (stray a) (rooms b) (rooms a) (rooms-veil h a b u)
      (λ i. rw (kind-veil h a b u 3 i, number-veil h a b u 2 i 2 (omega arith), keeps-veil h a b u (heading_of (rec a i))))

  -- .. and leaves them such
  wiped-veil : Whole a → (p q : ℕ → Bool) → clears q (rooms b) ≡ clears p (rooms a) → Veil h (wiped p a) (wiped q b)
  wiped-veil w p q e = rw e (run-veil h (clears p (rooms a)) a b w (clears-fit p (rooms a)) u)

module _ (h : ℕ) (t s : List ℕ) (w : Whole t) (v : Veil h t s) where
  v₁ : Veil h (after₁ t) (after₁ s)
  v₁ = unfold after₁ in wiped-veil h t s v w (adrift t) (adrift s) (first-veil h t s v)

  w₁ : Whole (after₁ t)
  w₁ = unfold after₁ in rw (length_run t (mend_first t)) w

  v₂ : Veil h (after₂ t) (after₂ s)
  v₂ = unfold after₂ in wiped-veil h (after₁ t) (after₁ s) v₁ w₁ (orphan (after₁ t)) (orphan (after₁ s)) (second-veil h (after₁ t) (after₁ s) v₁)

  round-veil : round_stores s ≡ round_stores t
  unfolding round_stores
  round-veil = rw (first-veil h t s v, second-veil h (after₁ t) (after₁ s) v₁, third-veil h (after₂ t) (after₂ s) v₂)

round-fits : (t : List ℕ) → Every Fits (round_stores t)
unfolding round_stores
round-fits t =
    every_append Fits (mend_first t) _ (clears-fit (adrift t) (rooms t))
    (every_append Fits (mend_second (after₁ t)) _ (clears-fit (orphan (after₁ t)) (rooms (after₁ t))) (clears-fit (stray (after₂ t)) (rooms (after₂ t))))

rounds-fit : (n : ℕ) (t : List ℕ) → Every Fits (rounds_stores n t)
unfolding rounds_stores
rounds-fit zero t = tt
rounds-fit (suc n) t = every_append Fits (round_stores t) (rounds_stores n (round t)) (round-fits t) (rounds-fit n (round t))

rounds-veil : (n h : ℕ) (t s : List ℕ) → Whole t → Veil h t s → rounds_stores n s ≡ rounds_stores n t
unfolding rounds_stores round
rounds-veil zero h t s w v = refl
rounds-veil (suc n) h t s w v =
    rw (round-veil h t s w v)
    (ap (λ (x : List Store). round_stores t ++ x)
    (rounds-veil n h (run t (round_stores t)) (run s (round_stores t)) (rw (length_run t (round_stores t)) w) (run-veil h (round_stores t) t s w (round-fits t) v)))

pub mend-veil : (h : ℕ) (t s : List ℕ) → Whole t → Veil h t s → mend_stores s ≡ mend_stores t
unfolding mend_stores cleared clear_stores
mend-veil h t s w v = rw (clear-veil, counts-veil h t s w v (rounds_stores (rooms t) t) (rounds-fit (rooms t) t))
  where
    clear-veil : rounds_stores (rooms s) s ≡ rounds_stores (rooms t) t
    clear-veil = rw (rooms-veil h t s v) (rounds-veil (rooms t) h t s w v)

-- ---- a sweep reaches the same headings of both, so it clears the same records, and writes the same counts

module _ (h : ℕ) (t s : List ℕ) (v : Veil h t s) where
  in-veil : (n g : ℕ) → reached_in n s g ≡ reached_in n t g
  unfolding reached_in
  in-veil zero g = refl
  in-veil (suc n) g =
      rw (kind-veil h t s v 1 g, rooms-veil h t s v)
      (ap (λ (b : Bool). is_kind 1 (rec t g) && b)
      (any-cong _ _ (rooms t) (λ i _. rw (names-veil h t s v g i, number-veil h t s v 2 i 2 (omega arith), in-veil n (holder_of (rec t i))))))

  reached-veil : (g : ℕ) → reached s g ≡ reached t g
  unfolding reached
  reached-veil g = rw (rooms-veil h t s v) (in-veil (rooms t) g)

  sweep-clears-veil : sweep_clears s ≡ sweep_clears t
  unfolding sweep_clears
  sweep-clears-veil =
      rw (
        clears-cong (lost_entry s) (lost_entry t) (rooms s) (rooms t) (rooms-veil h t s v)
            (λ i. rw (kind-veil h t s v 2 i, number-veil h t s v 2 i 2 (omega arith), reached-veil (holder_of (rec t i)))),
        clears-cong (lost_heading s) (lost_heading t) (rooms s) (rooms t) (rooms-veil h t s v) (λ i. rw (kind-veil h t s v 1 i, reached-veil i)),
        clears-cong (lost_text s) (lost_text t) (rooms s) (rooms t) (rooms-veil h t s v)
            (λ i. rw (kind-veil h t s v 3 i, number-veil h t s v 2 i 2 (omega arith), reached-veil (heading_of (rec t i)))),
      )

sweep-clears-fit : (t : List ℕ) → Every Fits (sweep_clears t)
unfolding sweep_clears
sweep-clears-fit t =
    every_append Fits (clears (lost_entry t) (rooms t)) _ (clears-fit (lost_entry t) (rooms t))
    (every_append Fits (clears (lost_heading t) (rooms t)) _ (clears-fit (lost_heading t) (rooms t)) (clears-fit (lost_text t) (rooms t)))

pub sweep-veil : (h : ℕ) (t s : List ℕ) → Whole t → Veil h t s → sweep_stores s ≡ sweep_stores t
unfolding sweep_stores live
sweep-veil h t s w v = rw (sweep-clears-veil h t s v, counts-veil h t s w v (sweep_clears t) (sweep-clears-fit t))
