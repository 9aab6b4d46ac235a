-- Each function's stores, but those of DST and `WRS*`, have the shape of the power cut: a new file first, then the entry, then counts and
-- what it displaced; an entry cleared, then counts and its file; or one store alone. What the end checks let pass has the free records
-- that it needs.
use mathlib.Core.List.{List, [], ◌∷◌, ◌++◌}
use mathlib.Core.Path.{◌≡◌, refl, ◌∙◌}
use Prim.Native.Nat.{ℕ, ◌≤◌, ◌<◌}
use native.Mathlib.Omega.{arith}
use lib.ListN.{length}
use borrow.Author.Tests.{ltb-false}
use Rattle.paper.specs.Scan.{Found, at, nowhere}
use Rattle.paper.specs.Record.{byte, level, lifetime, blank, heading_record}
use Rattle.paper.specs.Layout.{boxed}
use Rattle.paper.specs.Table.{rooms, rec, frees, room}
use Rattle.paper.specs.Declaration.{Part, or_else}
use Rattle.paper.specs.Line.{Word}
use Rattle.paper.specs.Check.{Check, passed, verdict}
use Rattle.paper.specs.Request.{Begin}
use Rattle.paper.specs.Block.{file_text}
use Rattle.paper.specs.Walk.{State, file, reached, to_last, last_name}
use Rattle.paper.specs.Store.{puts}
use Rattle.paper.specs.Effect.{Planned, plan, halted, chain_of, to_holder, to_end, Making, borne, placing, needed, write_inhibited, making, filing, crd_plan, wrs_plan, cpy_plan, dup_plan, chn_plan, dpr_plan, del_plan, rds_plan, lst_plan, lst_base_plan, lst_tree_plan, lst_base_tree_plan}
use Rattle.laws.proofs.Lists.{Every, every-parts}
use Rattle.laws.proofs.Fields.{entry-record-kind, length-entry}
use Rattle.laws.proofs.Entries.{found-stands}
use Rattle.laws.proofs.Lay.{length-rec, length-blank, within}
use Rattle.laws.proofs.Rooms.{room-below}
use Rattle.demands.proofs.Sound.Clauses.{Sound}
use Rattle.demands.proofs.Request.Fair.{Idle, verdict-idle}
use Rattle.demands.proofs.Request.Steps.{last-looked, holder-by, end_by}
use Rattle.demands.proofs.SoundKept.Filed.{roomy, length-file}
use Rattle.demands.proofs.SoundKept.Recoded.{length-recoded, recoded-like}
use Rattle.demands.proofs.SoundKept.Renamed.{length-renamed}
use Rattle.demands.proofs.PowerCut.Cut.{Litters, Counts, over, again, Shaped, none, phased}
use Rattle.demands.proofs.PowerCut.Losing.{losing-shaped, adding-shaped}
use Rattle.demands.proofs.PowerCut.Littering.{littering}

-- a plan whose stores have the shape where its checks pass
abbrev pub Safe : List ℕ → Planned → Type 0
Safe t (halted f) = Unit {0}
Safe t (plan p) = verdict p.checks ≡ passed → Shaped t p.stores

-- a walk to an argument's directory, or to its file, and what follows it
holder-safe : (t : List ℕ) (u place : ℕ) (w : Word) (f : State → Planned) → ((d : State) → Safe t (f d)) → Safe t (to_holder boxed t u place w f)
holder-safe t u place w f h = holder-by (Safe t) place (λ _ _ _. tt) t u w f (λ d _. h d)

end-safe : (t : List ℕ) (u place : ℕ) (w : Word) (f : State → State → Planned)
    → ((d s : State) → to_last boxed t d (chain_of w) ≡ reached s → Safe t (f d s)) → Safe t (to_end boxed t u place w f)
end-safe t u place w f h = end_by (Safe t) place (λ _ _ _. tt) t u w f (λ d s _. h d s)

module _ (t : List ℕ) (c : Sound t) where
  -- one store alone
  one-shaped : (i : ℕ) (r : List ℕ) → i < rooms t → length r ≡ 32 → Counts (rec t i) r → Shaped t (puts i r ∷ [])
  one-shaped i r l b q = phased [] (puts i r) [] refl tt (record { within = l; size = b; holds = q }) tt

  -- a new entry, given that the stores before it are debris
  making-safe : (m : Making) (thirteen fifteen late : List Check) → (length m.first ≤ length (frees t) → Every (Litters t) m.first)
      → length m.entry ≡ 32 → byte m.entry 0 ≡ 2 → Safe t (making boxed t m thirteen fifteen late)
  unfolding making
  making-safe m thirteen fifteen late lit size kind e =
      let a = (every-parts Idle (thirteen ++ write_inhibited m.place m.directory ∷ fifteen) _ (verdict-idle _ e)).1 in
      go (borne boxed t m) refl (ltb-false _ _ a.1.1.0)
    where
      go : (x : Found) → borne boxed t m ≡ x → needed m x ≤ length (frees t) → Shaped t (placing t m x)
      go (at i) q enough =
          let f = (found-stands t m.directory.holder m.name i q).1 in
          losing-shaped t c m.first (lit enough) i m.entry f.kind size
      go nowhere q enough =
          adding-shaped t m.first (lit (omega arith)) _ m.entry (room-below t (length m.first) (omega arith)) size kind

  -- a new file and its entry
  filing-safe : (place : ℕ) (w : Word) (d : State) (type lev code life n : ℕ) (body : List ℕ) (thirteen fifteen late : List Check)
      → Safe t (making boxed t (filing boxed t place w d code (heading_record type lev code life n) body) thirteen fifteen late)
  filing-safe place w d type lev code life n body thirteen fifteen late =
      making-safe (filing boxed t place w d code head body) thirteen fifteen late
      (λ enough. littering t c head body (roomy t type lev code life n body (omega (arith, length-file t head body, enough))))
      (length-entry code d.holder.heading (room t 0) d.holder.user (last_name (chain_of w)))
      (entry-record-kind code d.holder.heading (room t 0) d.holder.user (last_name (chain_of w)))
    where
      head : List ℕ
      head = heading_record type lev code life n

  -- ---- each function

  pub crd-safe : (u : ℕ) (name : Word) (lev code : Part) → Safe t (crd_plan boxed t u name lev code)
  unfolding crd_plan
  crd-safe u name lev code =
      holder-safe t u 1 name _ (λ d. filing-safe 1 name d 0 (or_else lev 0) (or_else code 0) 1 0 [] [] [] [])

  pub wrs-safe : (u : ℕ) (body : List ℕ) (life : ℕ) (lev code : Part) (name : Word) → Safe t (wrs_plan boxed t u body life lev code name)
  unfolding wrs_plan
  wrs-safe u body life lev code name =
      holder-safe t u 2 name _ (λ d. filing-safe 2 name d 1 (or_else lev 0) (or_else code 0) life (length body) body [] [] [])

  pub cpy-safe : (v u : ℕ) (old new : Word) (life lev code : Part) → Safe t (cpy_plan boxed t v u old new life lev code)
  unfolding cpy_plan
  cpy-safe v u old new life lev code =
      end-safe t v 1 old _ (λ _ f _. holder-safe t u 2 new _ (λ d.
      let source : List ℕ = rec t (file t f) in
      let body : List ℕ = file_text t (file t f) in
      filing-safe 2 new d 1 (or_else lev (level source)) (or_else code 0) (or_else life (lifetime source)) (length body) body
      _ _ _))

  pub dup-safe : (v u : ℕ) (to : Begin) (old new : Word) (code : Part) → Safe t (dup_plan boxed t v u to old new code)
  unfolding dup_plan
  dup-safe v u to old new code =
      end-safe t v 1 old _ (λ _ f _. holder-safe t u 2 new _ (λ d.
      making-safe _ [] _ _ (λ _. tt) (length-entry _ d.holder.heading (file t f) d.holder.user (last_name (chain_of new)))
      (entry-record-kind _ d.holder.heading (file t f) d.holder.user (last_name (chain_of new)))))

  pub chn-safe : (u : ℕ) (old link : Word) → Safe t (chn_plan boxed t u old link)
  unfolding chn_plan
  chn-safe u old link =
      end-safe t u 1 old _ (λ d f q _.
      let e = last-looked t d (chain_of old) f q in
      one-shaped f.entry _ e.within
      (length-renamed (rec t f.entry) (last_name link.names) (length-rec t f.entry e.within) e.stands.kind)
      (over e.stands.kind))

  pub dpr-safe : (u : ℕ) (name : Word) (code : ℕ) → Safe t (dpr_plan boxed t u name code)
  unfolding dpr_plan
  dpr-safe u name code =
      end-safe t u 1 name _ (λ d f q _.
      let e = last-looked t d (chain_of name) f q in
      let k : byte (rec t (file t f)) 0 ≡ 1 = c.targets f.entry e.within e.stands.kind in
      let i : file t f < rooms t = within t (file t f) c.whole (omega arith) in
      let s : length (rec t (file t f)) ≡ 32 = length-rec t (file t f) i in
      one-shaped (file t f) _ i (length-recoded (rec t (file t f)) code s k) (again k ((recoded-like (rec t (file t f)) code s k).kind ∙ k)))

  pub del-safe : (u place : ℕ) (name : Word) → Safe t (del_plan boxed t u place name)
  unfolding del_plan
  del-safe u place name =
      end-safe t u place name _ (λ d f q _. losing-shaped t c [] tt f.entry blank (last-looked t d (chain_of name) f q).stands.kind length-blank)

  pub rds-safe : (u : ℕ) (reply : List ℕ) (name : Word) (first count : Part) → Safe t (rds_plan boxed t u reply name first count)
  unfolding rds_plan
  rds-safe u reply name first count = end-safe t u 1 name _ (λ d f _ _. none refl)

  pub lst-safe : (u : ℕ) (reply : List ℕ) (name : Word) → Safe t (lst_plan boxed t u reply name)
  unfolding lst_plan
  lst-safe u reply name = end-safe t u 1 name _ (λ d f _ _. none refl)

  pub lst-base-safe : (u : ℕ) (reply : List ℕ) → Safe t (lst_base_plan boxed t u reply)
  unfolding lst_base_plan
  lst-base-safe u reply _ = none refl

  pub lst-tree-safe : (u : ℕ) (reply : List ℕ) (name : Word) (depth : ℕ) → Safe t (lst_tree_plan boxed t u reply name depth)
  unfolding lst_tree_plan
  lst-tree-safe u reply name depth = end-safe t u 1 name _ (λ d f _ _. none refl)

  pub lst-base-tree-safe : (u : ℕ) (reply : List ℕ) (depth : ℕ) → Safe t (lst_base_tree_plan boxed t u reply depth)
  unfolding lst_base_tree_plan
  lst-base-tree-safe u reply depth _ = none refl
