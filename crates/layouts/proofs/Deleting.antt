-- DEL and DST go name by name, each on the table that the one before it left: their stores lay no entry, so that what an entry names is
-- still no entry, the plan of the next name agrees too, and by induction on the names all of them answer alike.
use mathlib.Core.Bool.{Bool}
use mathlib.Core.List.{List, [], ◌∷◌}
use mathlib.Core.Logic.{◌⊎◌, inl, inr, ◌≢◌, by_cases}
use mathlib.Core.Path.{◌≡◌, refl, sym, ap, ◌∙◌}
use Prim.Native.Nat.{ℕ, ◌+◌, ◌-◌, ◌<◌}
use native.Mathlib.Omega.{arith}
use native.Mathlib.Decide.{ℕ_discrete, dec_lt}
use lib.ListN.{length}
use lib.Dec.{leb}
use Rattle.paper.specs.Record.{byte, heading_named, names, blank}
use Rattle.paper.specs.Layout.{Layout}
use Rattle.paper.specs.Table.{rooms, rec, lay, text_room}
use Rattle.paper.specs.Block.{blocks_of}
use Rattle.paper.specs.Line.{Word}
use Rattle.paper.specs.Check.{Verdict, passed, refused, verdict}
use Rattle.paper.specs.Store.{Store, clear, clears, run}
use Rattle.paper.specs.Count.{recounted, recounts}
use Rattle.paper.specs.Walk.{start, End, arrived, astray, ended, file}
use Rattle.paper.specs.Effect.{Planned, plan, halted, inward, chain_of, end_of, freed, with_counts, lost, settled, destroying, del_at, dst_at, del_plan, dst_plan}
use Rattle.paper.specs.Answer.{Ran, refused_by, done, cut, stores, ran, one_name, NamePlan, deleting}
use Rattle.laws.proofs.Tests.{either}
use Rattle.laws.proofs.Lists.{Every, every_append, every-imp, every-each}
use Rattle.laws.proofs.Lay.{Whole, length-rec, rec-past, length-lay, rooms-lay, lay-same, lay-other, length-blank, kind-blank}
use Rattle.laws.proofs.Fills.{every-fills}
use Rattle.laws.proofs.Recounts.{recounted-kind, every-recounts}
use Rattle.layouts.proofs.Twins.{Twins, run-twins, alike-length, alike-take}
use Rattle.layouts.proofs.Outcomes.{Same, Agree, Ends, refuses, finish, breaks, ran-twin}
use Rattle.layouts.proofs.Plans.{Aimed, del-twin, dst-twin}

-- ---- what lays no entry leaves entries aimed

-- a record of 32 bytes that is no entry
abbrev pub Plainly : Store → Type 0
Plainly x = (length x.bytes ≡ 32) × (byte x.bytes 0 ≢ 2)

module _ (t : List ℕ) (i : ℕ) (r : List ℕ) (w : Whole t) (e : length r ≡ 32) (n : byte r 0 ≢ 2) where
  laid-either : (k : ℕ) → (byte (rec (lay t i r) k) 0 ≢ 2) ⊎ (rec (lay t i r) k ≡ rec t k)
  laid-either k =
      by_cases (dec_lt k (rooms t))
      (λ (l : k < rooms t).
      by_cases (ℕ_discrete k i)
      (λ (q : k ≡ i). inl (λ z. n (sym (ap (λ (x : List ℕ). byte x 0) (laid q l)) ∙ z)))
      (λ (q : k ≢ i). inr (lay-other t i r k e q l)))
      (λ (l : ¬ (k < rooms t)). inr (rec-past (lay t i r) k (rw length-lay w) (rw rooms-lay (omega arith)) ∙ sym (rec-past t k w (omega arith))))
    where
      laid : k ≡ i → k < rooms t → rec (lay t i r) k ≡ r
      laid q l = rw q (lay-same t i r e (rw (← q) l))

  aimed-lay : Aimed t → Aimed (lay t i r)
  aimed-lay a k z = go (laid-either k)
    where
      held : (h : ℕ) → byte (rec t h) 0 ≢ 2 → (byte (rec (lay t i r) h) 0 ≢ 2) ⊎ (rec (lay t i r) h ≡ rec t h) → byte (rec (lay t i r) h) 0 ≢ 2
      held h m (inl q) = q
      held h m (inr q) = rw q m

      go : (byte (rec (lay t i r) k) 0 ≢ 2) ⊎ (rec (lay t i r) k ≡ rec t k) → byte (rec (lay t i r) (heading_named (rec (lay t i r) k))) 0 ≢ 2
      go (inl m) = absurd (m z)
      go (inr q) = rw q (held (heading_named (rec t k)) (a k (rw q at z)) (laid-either (heading_named (rec t k))))

aimed-run : (t : List ℕ) (ss : List Store) → Whole t → Every Plainly ss → Aimed t → Aimed (run t ss)
unfolding run
aimed-run t [] w h a = a
aimed-run t (x ∷ ss) w h a = aimed-run (lay t x.at x.bytes) ss (rw length-lay w) h.1 (aimed-lay t x.at x.bytes w h.0.0 h.0.1 a)

-- ---- the stores of DEL and DST are such

plain-clear : (i : ℕ) → Plainly (clear i)
plain-clear i = (length-blank, λ e. let z : byte blank 0 ≡ 0 = kind-blank blank refl in omega arith)

plain-recounts : (t : List ℕ) → Every Plainly (recounts t)
plain-recounts t = every-imp _ Plainly (recounts t) (λ x h. (h.size, kind x.at x.bytes h.within h.holds.0 h.holds.1.0)) (every-recounts t)
  where
    kind : (i : ℕ) (r : List ℕ) → i < rooms t → r ≡ recounted t i (rec t i) → byte (rec t i) 0 ≡ 1 → byte r 0 ≢ 2
    kind i r l e k z =
        let m : byte r 0 ≡ byte (rec t i) 0 = rw e (recounted-kind t i (rec t i) (length-rec t i l)) in
        omega arith

plain-freed : (t : List ℕ) (h : ℕ) → Every Plainly (freed t h)
unfolding freed
plain-freed t h = (plain-clear h, every-each Plainly (λ p. clear (text_room t h p)) (blocks_of t h) (λ p _. plain-clear (text_room t h p)))

plain-counts : (t : List ℕ) (ss : List Store) → Every Plainly ss → Every Plainly (with_counts t ss)
plain-counts t ss h = every_append Plainly ss (recounts (run t ss)) h (plain-recounts (run t ss))

plain-settled : (t : List ℕ) (e : ℕ) (r : List ℕ) → Every Plainly (settled t e r)
unfolding settled
plain-settled t e r = either (Every Plainly) (lost t e r) _ _ (plain-freed t (heading_named (rec t e))) tt

plain-clears : (p : ℕ → Bool) (n : ℕ) → Every Plainly (clears p n)
plain-clears p n =
    every-imp _ Plainly (clears p n) (λ x l. (l.size, λ z. let k : byte x.bytes 0 ≡ 0 = kind-blank x.bytes l.holds.0 in omega arith))
    (every-fills p (λ _. blank) n (λ _ _. length-blank))

abbrev pub PlainPlan : Planned → Type 0
PlainPlan (plan p) = Every Plainly p.stores
PlainPlan (halted f) = Unit {0}

abbrev PlainRan : Ran → Type 0
PlainRan (refused_by f) = Unit {0}
PlainRan (done p) = Every Plainly p.stores
PlainRan (cut p) = Every Plainly p.stores

plain-ran : (k : ℕ) (x : Planned) → PlainPlan x → PlainRan (ran k x)
plain-ran k (halted f) h = tt
plain-ran k (plan p) h = go (verdict p.checks)
  where
    go : (v : Verdict) → PlainRan (stores k p v)
    go passed = either PlainRan (leb (length p.stores) k) (done p) (cut p) h h
    go (refused f) = tt

module _ (L : Layout) (t : List ℕ) (u argument : ℕ) (v : Word) where
  plain-del : PlainPlan (del_plan L t u argument v)
  unfolding del_plan
  plain-del = go (ended L t (start u) (chain_of v))
    where
      go : (x : End) → PlainPlan (inward argument x (del_at t (end_of argument v)))
      go (arrived d f) =
          every_append Plainly (with_counts t (clear f.entry ∷ [])) (settled t f.entry blank)
          (plain-counts t (clear f.entry ∷ []) (plain-clear f.entry, tt)) (plain-settled t f.entry blank)
      go (astray number link) = tt

  plain-dst : PlainPlan (dst_plan L t u argument v)
  unfolding dst_plan
  plain-dst = go (ended L t (start u) (chain_of v))
    where
      razed : (h : ℕ) → Every Plainly (destroying t h)
      razed h =
          unfold destroying in
          every_append Plainly (freed t h) (clears (λ i. names h (rec t i)) (rooms t)) (plain-freed t h) (plain-clears (λ i. names h (rec t i)) (rooms t))

      go : (x : End) → PlainPlan (inward argument x (λ _ f. dst_at t (end_of argument v) f))
      go (arrived d f) = plain-counts t (destroying t (file t f)) (razed (file t f))
      go (astray number link) = tt

-- ---- name by name

-- the plan of one name, by each layout
pub record Names (A B : Layout) (one two : NamePlan) : Type 0 where
  pub agrees : (t s : List ℕ) → Twins A B t s → Aimed t → (u argument : ℕ) (v : Word) → Agree A B (one t u argument v) (two s u argument v)
  pub plainly : (t : List ℕ) (u argument : ℕ) (v : Word) → PlainPlan (one t u argument v)

module _ {A B : Layout} (one two : NamePlan) (c : Names A B one two) (u : ℕ) (reply : List ℕ) where
  pub deleting-twin : (t s : List ℕ) → Twins A B t s → Aimed t → (k n made : ℕ) (ws : List Word)
      → Same A B (deleting one t u reply k n made ws) (deleting two s u reply k n made ws)
  unfolding deleting
  deleting-twin t s w a k n made [] = record { answer = refl; reply = refl; table = w }
  deleting-twin t s w a k n made (v ∷ ws) =
      go (ran-twin k (c.agrees t s w a u (n + 1) v)) (plain-ran k (one t u (n + 1) v) (c.plainly t u (n + 1) v))
      (λ t₁ s₁ w₁ a₁ k₁ n₁ made₁. deleting-twin t₁ s₁ w₁ a₁ k₁ n₁ made₁ ws)
    where
      go : {x y : Ran} → Ends A B x y → PlainRan x
          → ((t₁ s₁ : List ℕ) → Twins A B t₁ s₁ → Aimed t₁ → (k₁ n₁ made₁ : ℕ)
          → Same A B (deleting one t₁ u reply k₁ n₁ made₁ ws) (deleting two s₁ u reply k₁ n₁ made₁ ws))
          → Same A B (one_name t reply k n made (λ t₁ k₁ n₁ made₁. deleting one t₁ u reply k₁ n₁ made₁ ws) x)
          (one_name s reply k n made (λ t₁ k₁ n₁ made₁. deleting two t₁ u reply k₁ n₁ made₁ ws) y)
      go (refuses f) z more = record { answer = refl; reply = refl; table = w }
      go (finish {p} {q} h) z more =
          rw (← (alike-length h.stores))
          (more (run t p.stores) (run s q.stores) (run-twins h.stores w) (aimed-run t p.stores w.whole z a) (k - length p.stores) (n + 1)
          (made + length p.stores))
      go (breaks h) z more = record { answer = refl; reply = refl; table = run-twins (alike-take k h.stores) w }

pub deletion : (A B : Layout) → Names A B (del_plan A) (del_plan B)
deletion A B = record { agrees = λ t s w a u n v. del-twin w a u n v; plainly = plain-del A }

pub destruction : (A B : Layout) → Names A B (dst_plan A) (dst_plan B)
destruction A B = record { agrees = λ t s w a u n v. dst-twin w a u n v; plainly = plain-dst A }
