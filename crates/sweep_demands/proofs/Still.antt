-- What a sweep leaves of a sound table has nothing to mend but counts: an entry left has its directory and its heading, for both are reached;
-- a heading left has the entry of its chain; text left has its heading.
use mathlib.Core.Bool.{Bool, true, false, ◌&&◌, not}
use mathlib.Core.List.{List, []}
use mathlib.Core.Path.{◌≡◌, refl}
use Prim.Native.Nat.{ℕ, ◌<◌}
use borrow.Author.Tests.{eqb-true}
use Rattle.paper.specs.Record.{byte, is_kind, holder_of, names, heading_named, heading_of}
use Rattle.paper.specs.Table.{rooms, rec}
use Rattle.paper.specs.Entry.{named}
use Rattle.paper.specs.Sound.{is_base}
use Rattle.paper.specs.Mend.{anchored, adrift, keeps_text, orphan, stray, round_stores}
use Rattle.paper.specs.Sweep.{reached, live}
use Rattle.laws.proofs.Tests.{and_left, and_both}
use Rattle.laws.proofs.Scans.{any_here}
use Rattle.laws.proofs.Entries.{names-kind, names-by}
use Rattle.laws.proofs.Lay.{Whole}
use Rattle.demands.proofs.Mending.Part.{Kept}
use Rattle.demands.proofs.Mending.Squeeze.{quiet}
use Rattle.sweep_demands.proofs.Reach.{or-up, reached-heading, reached-by, reached-from}
use Rattle.sweep_demands.proofs.Live.{lost, entry-stays, heading-stays, entry-live, heading-live, text-live, live-less, live-stays, live-was}

module _ (t : List ℕ) (w : Whole t) (k : Kept t) where
  in-t : (i : ℕ) → i < rooms (live t) → i < rooms t
  in-t i l = rw (live-less t w).long at l

  -- a heading that is reached stays
  reached-stays : (h : ℕ) → reached t h ≡ true → is_kind 1 (rec (live t) h) ≡ true
  reached-stays h e = let q = reached-heading t w h e in rw (live-stays t w h (heading-stays t h q e), q)

  -- an entry that stays names a reached heading
  named-reached : (i : ℕ) → i < rooms t → byte (rec t i) 0 ≡ 2 → lost t i ≡ false → reached t (heading_named (rec t i)) ≡ true
  unfolding anchored
  named-reached i l q e =
      let h : is_kind 1 (rec t (heading_named (rec t i))) ≡ true = and_left (is_kind 1 (rec t (heading_named (rec t i)))) _ (k.entries i l q) in
      reached-by t w (heading_named (rec t i)) i (eqb-true _ _ h) l (names-by (heading_named (rec t i)) (rec t i) q refl) (entry-live t i q e)

  no-adrift : (i : ℕ) → i < rooms (live t) → adrift (live t) i ≡ false
  unfolding anchored
  no-adrift i l = go (is_kind 2 (rec (live t) i)) refl
    where
      at : byte (rec (live t) i) 0 ≡ 2 → anchored (live t) (rec (live t) i) ≡ true
      at q =
          let x = live-was t w 1 i q in
          let z : byte (rec t i) 0 ≡ 2 = rw x.1 at q in
          rw x.1
          (and_both (is_kind 1 (rec (live t) (heading_named (rec t i)))) _ (reached-stays (heading_named (rec t i)) (named-reached i (in-t i l) z x.0))
          (or-up (is_base (rec t i)) (reached t (holder_of (rec t i))) _ (reached-stays (holder_of (rec t i))) (entry-live t i z x.0)))

      go : (b : Bool) → is_kind 2 (rec (live t) i) ≡ b → (b && not (anchored (live t) (rec (live t) i))) ≡ false
      go true e = rw (at (eqb-true _ _ e))
      go false e = refl

  no-orphan : (i : ℕ) → i < rooms (live t) → orphan (live t) i ≡ false
  unfolding named
  no-orphan i l = go (is_kind 1 (rec (live t) i)) refl
    where
      at : byte (rec (live t) i) 0 ≡ 1 → named (live t) i ≡ true
      at q =
          let x = live-was t w 0 i q in
          let f = reached-from t w i (heading-live t i (rw x.1 at q) x.0) in
          let r = live-stays t w f.0 (entry-stays t f.0 (names-kind i (rec t f.0) f.2) f.3) in
          any_here (λ j. names i (rec (live t) j)) (rooms (live t)) f.0 (rw (live-less t w).long f.1) (rw r f.2)

      go : (b : Bool) → is_kind 1 (rec (live t) i) ≡ b → (b && not (named (live t) i)) ≡ false
      go true e = rw (at (eqb-true _ _ e))
      go false e = refl

  no_stray : (i : ℕ) → i < rooms (live t) → stray (live t) i ≡ false
  no_stray i l = go (is_kind 3 (rec (live t) i)) refl
    where
      at : byte (rec (live t) i) 0 ≡ 3 → keeps_text (rec (live t) (heading_of (rec (live t) i))) ≡ true
      at q =
          let x = live-was t w 2 i q in
          let z : byte (rec t i) 0 ≡ 3 = rw x.1 at q in
          let e = text-live t i z x.0 in
          let r = live-stays t w (heading_of (rec t i)) (heading-stays t (heading_of (rec t i)) (reached-heading t w (heading_of (rec t i)) e) e) in
          rw (x.1, r) (k.texts i (in-t i l) z)

      go : (b : Bool) → is_kind 3 (rec (live t) i) ≡ b → (b && not (keeps_text (rec (live t) (heading_of (rec (live t) i))))) ≡ false
      go true e = rw (at (eqb-true _ _ e))
      go false e = refl

  -- a round takes no store
  pub live-still : round_stores (live t) ≡ []
  live-still = quiet (live t) no-adrift no-orphan no_stray
