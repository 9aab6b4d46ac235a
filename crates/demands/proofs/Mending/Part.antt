-- What a cut table s has to do with the table f that it mends to, record by record: f's own, or debris where f has a free record.
-- A later request that lays other records, or lets mending clear them, adds a case; what is proved of these stands.
use mathlib.Core.Bool.{true, false}
use mathlib.Core.List.{List}
use mathlib.Core.Path.{◌≡◌}
use Prim.Native.Nat.{ℕ, ◌<◌}
use lib.ListN.{length, take, drop}
use Rattle.paper.specs.Record.{byte, directory, heading_of, blank}
use Rattle.paper.specs.Table.{rooms, rec}
use Rattle.paper.specs.Entry.{named}
use Rattle.paper.specs.Count.{counts_right}
use Rattle.paper.specs.Mend.{anchored, keeps_text}

-- r is the heading x but for its counts: bytes 12-13, and 14-15 in a directory
pub record ButCounts (x r : List ℕ) : Type 0 where
  pub kind : byte x 0 ≡ 1
  pub front : take 12 r ≡ take 12 x
  pub file : directory x ≡ false → take 2 (drop 14 r) ≡ take 2 (drop 14 x)
  pub back : drop 16 r ≡ drop 16 x

-- r is x, but for what mending writes anew
pub data Alike (x r : List ℕ) : Type 0 where
  equal : r ≡ x → Alike x r
  counts : ButCounts x r → Alike x r

-- r, in record i of s, is debris over f: mending takes it away
pub data Goes (f s : List ℕ) (i : ℕ) (r : List ℕ) : Type 0 where
  heading : byte r 0 ≡ 1 → named s i ≡ false → Goes f s i r
  text : byte r 0 ≡ 3 → keeps_text (rec f (heading_of r)) ≡ false → Goes f s i r
  entry : byte r 0 ≡ 2 → anchored s r ≡ false → Goes f s i r

-- record i holds f's own x, or debris r where f has a free record
pub data Part (f s : List ℕ) (i : ℕ) (x r : List ℕ) : Type 0 where
  own : Alike x r → Part f s i x r
  loose : x ≡ blank → Goes f s i r → Part f s i x r

pub record Parts (f s : List ℕ) : Type 0 where
  pub long : length s ≡ length f
  pub each : (i : ℕ) → i < rooms f → Part f s i (rec f i) (rec s i)

-- the clauses of soundness that mending looks after
pub record Kept (f : List ℕ) : Type 0 where
  pub headings : (i : ℕ) → i < rooms f → byte (rec f i) 0 ≡ 1 → named f i ≡ true
  pub entries : (i : ℕ) → i < rooms f → byte (rec f i) 0 ≡ 2 → anchored f (rec f i) ≡ true
  pub texts : (i : ℕ) → i < rooms f → byte (rec f i) 0 ≡ 3 → keeps_text (rec f (heading_of (rec f i))) ≡ true
  pub counts : (i : ℕ) → i < rooms f → byte (rec f i) 0 ≡ 1 → counts_right f i (rec f i) ≡ true

-- a is s with some records cleared and some counts written anew: what mending may have done to it
pub data Below (x r : List ℕ) : Type 0 where
  free : r ≡ blank → Below x r
  stays : Alike x r → Below x r

pub record Less (s a : List ℕ) : Type 0 where
  pub long : length a ≡ length s
  pub each : (i : ℕ) → i < rooms s → Below (rec s i) (rec a i)
