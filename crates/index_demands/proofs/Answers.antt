-- Looking a name up gives the answer of a plain scan: an entry has the rank that is sought exactly when it bears that name there,
-- and a name that is no link name no entry bears. It looks at no more than 12 entries.
use mathlib.Core.Bool.{true, false}
use mathlib.Core.List.{List}
use mathlib.Core.Logic.{◌⊎◌, inl, inr}
use mathlib.Core.Path.{◌≡◌, sym, subst}
use Prim.Native.Nat.{ℕ, ◌≤◌, ◌<◌}
use native.Mathlib.Omega.{arith}
use borrow.Author.Tests.{eqb-true}
use Rattle.paper.specs.Layout.{boxed}
use Rattle.paper.specs.Scan.{nowhere, first_below}
use Rattle.paper.specs.Table.{rooms, rec}
use Rattle.paper.specs.Name.{link_name}
use Rattle.paper.specs.Entry.{Holder, stands, bears, find}
use Rattle.paper.specs.Index.{is_entry, rank_in, looked_up}
use Rattle.laws.proofs.Tests.{truth, false-by, not-both}
use Rattle.laws.proofs.Scans.{any_none, first_cong, first-none}
use Rattle.laws.proofs.Entries.{bears-stands, bears-name}
use Rattle.demands.proofs.Sound.Clauses.{Sound, sound-clauses}
use Rattle.index_laws.specs.Judged.{ranks}
use Rattle.index_laws.specs.Scanned.{met_by, scanned}
use Rattle.index_laws.proofs.Truth.{true-length}
use Rattle.index_laws.proofs.Good.{Good}
use Rattle.index_laws.proofs.LookUps.{looked-up-scanned, looked-at}
use Rattle.index_demands.proofs.Ranks.{sought_in, entry-small, rank-bears}
use Rattle.index_demands.proofs.Apart.{sound-apart}

module _ (t : List ℕ) (c : Sound t) (d : Holder) (n : List ℕ) where
  -- by its rank, and by its name
  ranks-bears : link_name n ≡ true → (i : ℕ) → i < rooms t → ranks t (rank_in d n) i ≡ bears boxed (sought_in d) n (rec t i)
  unfolding ranks bears stands
  ranks-bears z i l = go (truth (is_entry t i))
    where
      go : (is_entry t i ≡ true) ⊎ (is_entry t i ≡ false) → ranks t (rank_in d n) i ≡ bears boxed (sought_in d) n (rec t i)
      go (inl e) = rw (e) (rw e at (rank-bears t c i l (eqb-true _ _ e) d n z))
      go (inr e) = rw e

  scans-alike : link_name n ≡ true → first_below (ranks t (rank_in d n)) (rooms t) ≡ find boxed t (sought_in d) n
  unfolding find
  scans-alike z = first_cong (ranks t (rank_in d n)) (λ i. bears boxed (sought_in d) n (rec t i)) (rooms t) (ranks-bears z)

  -- what is no link name is nowhere
  borne-nowhere : link_name n ≡ false → find boxed t (sought_in d) n ≡ nowhere
  unfolding find
  borne-nowhere z =
      first-none (λ i. bears boxed (sought_in d) n (rec t i)) (rooms t)
      (any_none (λ i. bears boxed (sought_in d) n (rec t i)) (rooms t)
      (λ i l. false-by (bears boxed (sought_in d) n (rec t i)) (λ e.
      let k = (bears-stands (sought_in d) n (rec t i) e).kind in
      not-both (subst (λ (m : List ℕ). link_name m ≡ true) (sym (bears-name (sought_in d) n (rec t i) e)) (entry-small t c i l k).legal) z)))

-- "gives the plain scan's answer": the entry where there is one, 65,535 where there is none, with the count, which is at most 12
pub scan-answer : (t x : List ℕ) → Good t x → (d : Holder) (n : List ℕ)
    → (looked_up t x d n ≡ met_by (find boxed t (sought_in d) n) (looked_up t x d n).count) × ((looked_up t x d n).count ≤ 12)
unfolding looked_up scanned
scan-answer t x g d n = (go (truth (link_name n)), looked-at t x d n (rw (true-length t x g.index) c.few))
  where
    c : Sound t
    c = sound-clauses t g.sized g.sound

    go : (link_name n ≡ true) ⊎ (link_name n ≡ false) → looked_up t x d n ≡ met_by (find boxed t (sought_in d) n) (looked_up t x d n).count
    go (inl z) =
        rw (← (scans-alike t c d n z)) (looked-up-scanned t x d n z (sound-apart t g.sized g.sound) g.index (omega (arith, c.few)))
    go (inr z) = rw (z, borne-nowhere t c d n z)
