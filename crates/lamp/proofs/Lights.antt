-- The light by how filing and reading ended: each case of the definition is one law, from the code's answer of that case.
-- So each return of the code is one of them.
use mathlib.Core.List.{List}
use mathlib.Core.Path.{◌≡◌, refl, ◌∙◌}
use Prim.Native.Nat.{ℕ}
use Rattle.std.specs.Prelude.{Ok, Err}
use Rattle.job.specs.Sheet.{job}
use Rattle.job.specs.Told.{Indexed, beside}
use Rattle.job.specs.Refusal.{admission}
use Rattle.job.specs.Filing as F
use Rattle.job.specs.Filing.{kept_filing}
use Rattle.job.specs.Reading as R
use Rattle.job.specs.Reading.{kept_reading}
use Rattle.job.specs.Lamp.{green, read_ends, filed_ends, leaving_kept, lit_kept}
use Rattle.lamp.specs.Shown.{shown, failure_shown, Lighted}
use Rattle.lamp.specs.Refused.{admission_shown}
use Rattle.lamp.specs.Runs.{Filed, WasRead}
use Rattle.lamp.specs.declared.failure.Failure.{Failure}
use Rattle.lamp.specs.declared.failure.Failure.TheVariants.{Unfiled, Unread}
use Rattle.lamp.proofs.Refusals.{lit-passed}

module _ (back : List ℕ) (onward : Indexed → R.ReadingOf Indexed) where
  red-filed : (o : F.FilingOf Indexed) (f : Failure) (v x : List ℕ) → Filed o (Err f) v x
      → Lighted (filed_ends leaving_kept back onward o) (failure_shown f) v x back
  red-filed (F.whole s n) f v x p = cc p.result
  red-filed (F.failed i n s k) f v x p =
      let q : f ≡ Unfiled i n k = cc p.result in
      let z : s ≡ beside v x = cc p.state in
      rw (q, z) (record { answer = refl; table = refl; index = refl; back = refl })

  onwards : (o : F.FilingOf Indexed) (n : ℕ) (v x : List ℕ) → Filed o (Ok n) v x
      → filed_ends leaving_kept back onward o ≡ read_ends leaving_kept n (onward (beside v x))
  onwards (F.whole s m) n v x p =
      let q : m ≡ n = cc p.result in
      let z : s ≡ beside v x = cc p.state in
      rw (q, z)
  onwards (F.failed i m s k) n v x p = cc p.result

red-read : (o : R.ReadingOf Indexed) (stores : ℕ) (f : Failure) (v x w : List ℕ) → WasRead o stores (Err f) v x w
    → Lighted (read_ends leaving_kept stores o) (failure_shown f) v x w
red-read (R.whole s b) stores f v x w p = cc p.result
red-read (R.failed i n s b) stores f v x w p =
    let q : f ≡ Unread i n stores = cc p.result in
    let z : s ≡ beside v x = cc p.state in
    let y : b ≡ w = cc p.back in
    rw (q, z, y) (record { answer = refl; table = refl; index = refl; back = refl })

green-read : (o : R.ReadingOf Indexed) (stores : ℕ) (v x w : List ℕ) → WasRead o stores (Ok tt) v x w
    → Lighted (read_ends leaving_kept stores o) (shown (green stores)) v x w
green-read (R.whole s b) stores v x w p =
    let z : s ≡ beside v x = cc p.state in
    let y : b ≡ w = cc p.back in
    rw (z, y) (record { answer = refl; table = refl; index = refl; back = refl })
green-read (R.failed i n s b) stores v x w p = cc p.result

-- a job that is not refused
module _ (t x sheets texts back chain : List ℕ) (u k : ℕ) (e : Ok tt ≡ admission_shown (admission sheets texts back)) (v y : List ℕ) where
  abbrev filing : F.FilingOf Indexed
  filing = kept_filing (beside t x) chain u k 1 0 (job sheets texts)

  abbrev onward : Indexed → R.ReadingOf Indexed
  onward s = kept_reading s chain back u 1 (job sheets texts)

  pub unfiled : (f : Failure) → Filed filing (Err f) v y → Lighted (lit_kept t x sheets texts back chain u k) (failure_shown f) v y back
  unfiled f p = rw (lit-passed t x sheets texts back chain u k e) (red-filed back onward filing f v y p)

  module _ (n : ℕ) (p : Filed filing (Ok n) v y) (a b w : List ℕ) where
    through : lit_kept t x sheets texts back chain u k ≡ read_ends leaving_kept n (onward (beside v y))
    through = lit-passed t x sheets texts back chain u k e ∙ onwards back onward filing n v y p

    pub unread : (f : Failure) → WasRead (onward (beside v y)) n (Err f) a b w → Lighted (lit_kept t x sheets texts back chain u k) (failure_shown f) a b w
    unread f q = rw through (red-read (onward (beside v y)) n f a b w q)

    pub read : WasRead (onward (beside v y)) n (Ok tt) a b w → Lighted (lit_kept t x sheets texts back chain u k) (shown (green n)) a b w
    read q = rw through (green-read (onward (beside v y)) n a b w q)
