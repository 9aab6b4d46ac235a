-- A plan keeps a table sound if its stores do so where its checks pass: a refusal stores nothing, and only 22 stops between the stores.
-- The last link of a walk finds its entry, so what CHN, DPR, DEL and DST store is laid over an entry, or the heading that it names.
use mathlib.Core.Bool.{true, false, not, ◌&&◌, true≢false}
use mathlib.Core.List.{List, [], ◌∷◌, ◌++◌}
use mathlib.Core.Logic.{◌≢◌}
use mathlib.Core.Path.{◌≡◌, refl, sym, ◌∙◌}
use Prim.Native.Nat.{ℕ, ◌+◌, ◌-◌, ◌≤◌, ◌<◌}
use native.Mathlib.Omega.{arith}
use lib.ListN.{length}
use borrow.Author.Tests.{eqb-true, ltb-false}
use Rattle.paper.specs.Scan.{Found, at, nowhere}
use Rattle.paper.specs.Record.{byte, blank}
use Rattle.paper.specs.Layout.{boxed}
use Rattle.paper.specs.Table.{rooms, rec, lay, frees}
use Rattle.paper.specs.Name.{link_name, legal_base}
use Rattle.paper.specs.Declaration.{Part}
use Rattle.paper.specs.Line.{Word}
use Rattle.paper.specs.Check.{Check, passed, verdict}
use Rattle.paper.specs.Entry.{find, full}
use Rattle.paper.specs.Sound.{is_base}
use Rattle.paper.specs.Walk.{State, start, file, reached, to_directory, last_name, to_last}
use Rattle.paper.specs.Store.{clear, run}
use Rattle.paper.specs.Count.{recounts}
use Rattle.paper.specs.Effect.{Plan, Planned, plan, halted, chain_of, to_holder, to_end, is_found, Making, borne, placing, needed, displacing, losing, settled, write_inhibited, making, chn_plan, dpr_plan, del_plan, destroying, dst_plan, rds_plan, lst_plan, lst_base_plan, lst_tree_plan, lst_base_tree_plan}
use Rattle.paper.specs.Answer.{Outcome, ran, single, one_name, deleting}
use Rattle.laws.proofs.Tests.{implies-by}
use Rattle.laws.proofs.Lists.{Every, every-parts}
use Rattle.laws.proofs.Entries.{stands-holder}
use Rattle.laws.proofs.Lay.{length-blank, lay-other, rooms-lay, within}
use Rattle.laws.proofs.Runs.{Lays, run-append}
use Rattle.demands.proofs.Sound.Clauses.{Sound}
use Rattle.demands.proofs.Sound.Right.{Right}
use Rattle.demands.proofs.Request.Several.{Several, deletion, destruction, plan_of}
use Rattle.demands.proofs.Request.Fair.{Idle, verdict-idle}
use Rattle.demands.proofs.Request.Steps.{last-looked, holder-by, end_by}
use Rattle.demands.proofs.Request.Ended.{Passed, ran-by}
use Rattle.demands.proofs.SoundKept.Freed.{destroyed-sound}
use Rattle.demands.proofs.SoundKept.Counted.{recounts-right}
use Rattle.demands.proofs.SoundKept.Settled.{deleted-sound}
use Rattle.demands.proofs.SoundKept.Recoded.{recoded-sound}
use Rattle.demands.proofs.SoundKept.Renamed.{renamed-sound}
use Rattle.demands.proofs.SoundKept.Recounted.{Gone, counted-right, settled-gone}
use Rattle.demands.proofs.SoundKept.Told.{recoded-true, renamed-true}

-- the plan's stores keep the table sound where its checks pass
abbrev pub Keeps : List ℕ → Planned → Type 0
Keeps t (plan p) = verdict p.checks ≡ passed → Right (run t p.stores)
Keeps t (halted f) = Unit {0}

-- what the walks of an argument reach, and what follows them
pub holder-keeps : (t : List ℕ) (u place : ℕ) (w : Word) (f : State → Planned)
    → ((d : State) → to_directory boxed t 1 (start u) (chain_of w) ≡ reached d → Keeps t (f d)) → Keeps t (to_holder boxed t u place w f)
holder-keeps t u place w f = holder-by (Keeps t) place (λ _ _ _. tt) t u w f

pub end-keeps : (t : List ℕ) (u place : ℕ) (w : Word) (f : State → State → Planned)
    → ((d s : State) → to_directory boxed t 1 (start u) (chain_of w) ≡ reached d → to_last boxed t d (chain_of w) ≡ reached s → Keeps t (f d s))
    → Keeps t (to_end boxed t u place w f)
end-keeps t u place w f = end_by (Keeps t) place (λ _ _ _. tt) t u w f

-- ---- DPR, DEL, DST and CHN

pub dpr-keeps : (t : List ℕ) (u : ℕ) (name : Word) (code : ℕ) → Right t → code ≤ 7 → Keeps t (dpr_plan boxed t u name code)
unfolding dpr_plan run
dpr-keeps t u name code c b =
    end-keeps t u 1 name _ (λ d s _ e _.
    let f = last-looked t d (chain_of name) s e in
    let k = c.clauses.targets s.entry f.within f.stands.kind in
    record { clauses = recoded-sound t (file t s) code c.clauses k b; counts = recoded-true t (file t s) code c.clauses k c.counts })

pub del-keeps : (t : List ℕ) (u place : ℕ) (name : Word) → Sound t → Keeps t (del_plan boxed t u place name)
unfolding del_plan run
del-keeps t u place name c =
    end-keeps t u place name _ (λ d s _ e v.
    let f = last-looked t d (chain_of name) s e in
    counted-right t [] (clear s.entry) (settled t s.entry blank) (gone s.entry f.within f.stands.kind)
    (deleted-sound t s.entry c f.stands.kind (verdict-idle _ v).1.0))
  where
    gone : (e : ℕ) → e < rooms t → byte (rec t e) 0 ≡ 2 → Every (Lays (Gone (lay t e blank)) (rooms (lay t e blank))) (settled t e blank)
    gone e l k =
        settled-gone t c e blank l k (lay t e blank) (rooms-lay t e blank)
        (λ j i d q. lay-other t e blank i length-blank d (within t i c.whole (omega arith)))

pub dst-keeps : (t : List ℕ) (u place : ℕ) (name : Word) → Sound t → Keeps t (dst_plan boxed t u place name)
unfolding dst_plan
dst-keeps t u place name c =
    end-keeps t u place name _ (λ d s _ e v.
    let f = last-looked t d (chain_of name) s e in
    let h : ℕ = file t s in
    rw (run-append t (destroying t h) (recounts (run t (destroying t h))))
    (recounts-right (run t (destroying t h))
    (destroyed-sound t h c (c.targets s.entry f.within f.stands.kind) (verdict-idle _ v).1.0)))

-- one name of either
pub named-keeps : (s : Several) (t : List ℕ) (u place : ℕ) (name : Word) → Sound t → Keeps t (plan_of s t u place name)
named-keeps deletion = del-keeps
named-keeps destruction = dst-keeps

not_found : (f : Found) → is_found f ≡ false → f ≡ nowhere
not_found (at i) e = absurd (true≢false e)
not_found nowhere e = refl

-- CHN's link is a link name, and a legal base name where the old name is looked up in the base list
pub chn-keeps : (t : List ℕ) (u : ℕ) (old link : Word) → Right t → link_name (last_name link.names) ≡ true
    → ((d : State) → to_directory boxed t 1 (start u) (chain_of old) ≡ reached d → d.holder.heading ≡ 65535 → legal_base (last_name link.names) ≡ true)
    → Keeps t (chn_plan boxed t u old link)
unfolding chn_plan run
chn-keeps t u old link c n b =
    end-keeps t u 1 old _ (λ d s w e v.
    let l = last-looked t d (chain_of old) s e in
    let f = l.stands in
    let x : find boxed t d.holder (last_name link.names) ≡ nowhere = not_found _ (verdict-idle _ v).1.0 in
    record {
      clauses =
          renamed-sound t s.entry (last_name link.names) c.clauses f.kind n
          (implies-by (is_base (rec t s.entry)) _ (λ q. b d w (sym f.heading ∙ eqb-true _ _ q)))
          (rw (stands-holder d.holder (rec t s.entry) f) x);
      counts = renamed-true t s.entry (last_name link.names) l.within f.kind c.counts;
    })

-- ---- RDS and LST store nothing

pub rds-keeps : (t : List ℕ) (u : ℕ) (reply : List ℕ) (name : Word) (first count : Part) → Right t → Keeps t (rds_plan boxed t u reply name first count)
unfolding rds_plan run
rds-keeps t u reply name first count c = end-keeps t u 1 name _ (λ _ _ _ _ _. c)

pub lst-keeps : (t : List ℕ) (u : ℕ) (reply : List ℕ) (name : Word) → Right t → Keeps t (lst_plan boxed t u reply name)
unfolding lst_plan run
lst-keeps t u reply name c = end-keeps t u 1 name _ (λ _ _ _ _ _. c)

pub lst_base-keeps : (t : List ℕ) (u : ℕ) (reply : List ℕ) → Right t → Keeps t (lst_base_plan boxed t u reply)
unfolding lst_base_plan run
lst_base-keeps t u reply c _ = c

pub lst_tree-keeps : (t : List ℕ) (u : ℕ) (reply : List ℕ) (name : Word) (depth : ℕ) → Right t → Keeps t (lst_tree_plan boxed t u reply name depth)
unfolding lst_tree_plan run
lst_tree-keeps t u reply name depth c = end-keeps t u 1 name _ (λ _ _ _ _ _. c)

pub lst_base_tree-keeps : (t : List ℕ) (u : ℕ) (reply : List ℕ) (depth : ℕ) → Right t → Keeps t (lst_base_tree_plan boxed t u reply depth)
unfolding lst_base_tree_plan run
lst_base_tree-keeps t u reply depth c _ = c

-- ---- a new entry: over the one that bears its name, or in a free record

module _ (t : List ℕ) (m : Making)
    (over : (e : ℕ) → borne boxed t m ≡ at e → length m.first ≤ length (frees t) → losing t e m.entry ≡ false
    → Right (run t (placing t m (at e))))
    (free : borne boxed t m ≡ nowhere → full t m.directory.holder ≡ false → length m.first < length (frees t)
    → Right (run t (placing t m nowhere))) where
  pub making-keeps : (thirteen fifteen late : List Check) → Keeps t (making boxed t m thirteen fifteen late)
  unfolding making
  making-keeps thirteen fifteen late v =
      let a = (every-parts Idle (thirteen ++ write_inhibited m.place m.directory ∷ fifteen) _ (verdict-idle _ v)).1 in
      go (borne boxed t m) refl a.0 a.1.0 (ltb-false _ _ a.1.1.0)
    where
      go : (f : Found) → borne boxed t m ≡ f → (not (is_found f) && full t m.directory.holder) ≡ false → displacing t f m.entry ≡ false
          → needed m f ≤ length (frees t) → Right (run t (placing t m f))
      go (at e) q x y z = over e q z y
      go nowhere q x y z = free q x (omega arith)

-- ---- the table after, where the stop number is not reached

pub passed-sound : (t : List ℕ) (x : Planned) (p : Plan) → Keeps t x → Passed x p → Right (run t p.stores)
passed-sound t x p h v = let s : Keeps t (plan p) = rw v.plan at h in s v.checks

-- every function but DEL and DST
pub single-sound : (t reply : List ℕ) (k : ℕ) → Right t → (x : Planned) → Keeps t x
    → (single t reply k (ran k x)).answer.number ≢ 22 → Right (single t reply k (ran k x)).table
single-sound t reply k c x h =
    ran-by (λ y. (single t reply k y).answer.number ≢ 22 → Right (single t reply k y).table) k x
    (λ _ _ _. c) (λ p v _ _. passed-sound t x p h v) (λ _ _ _ d. absurd (d refl))

-- DEL and DST: after each of the names, up to a refusal
pub deleting-sound : (s : Several) (ws : List Word) (t : List ℕ) (u : ℕ) (reply : List ℕ) (k n made : ℕ) → Right t
    → (deleting (plan_of s) t u reply k n made ws).answer.number ≢ 22 → Right (deleting (plan_of s) t u reply k n made ws).table
unfolding deleting
deleting-sound s [] t u reply k n made c = λ _. c
deleting-sound s (w ∷ ws) t u reply k n made c = one (λ t₁. deleting-sound s ws t₁ u reply)
  where
    x : Planned
    x = plan_of s t u (n + 1) w

    more : List ℕ → ℕ → ℕ → ℕ → Outcome
    more t₁ k₁ n₁ made₁ = deleting (plan_of s) t₁ u reply k₁ n₁ made₁ ws

    one : ((t₁ : List ℕ) (k₁ n₁ made₁ : ℕ) → Right t₁ → (more t₁ k₁ n₁ made₁).answer.number ≢ 22 → Right (more t₁ k₁ n₁ made₁).table)
        → (one_name t reply k n made more (ran k x)).answer.number ≢ 22 → Right (one_name t reply k n made more (ran k x)).table
    one rest =
        ran-by (λ y. (one_name t reply k n made more y).answer.number ≢ 22 → Right (one_name t reply k n made more y).table) k x
        (λ _ _ _. c)
        (λ p v _.
        rest (run t p.stores) (k - length p.stores) (n + 1) (made + length p.stores)
        (passed-sound t x p (named-keeps s t u (n + 1) w c.clauses) v))
        (λ _ _ _ d. absurd (d refl))
