-- The headings marked as reached, and the queue of those whose entries are still to be followed.
use Rattle.std.specs.Prelude.{Bool, true, false, List, ◌⊎◌, ◌≡◌, ℕ, ◌≤◌, ◌<◌, length, get_or}
use Rattle.paper.specs.Record.{byte, names}
use Rattle.paper.specs.Scan.{count_below}
use Rattle.paper.specs.Sound.{is_base}
use Rattle.paper.specs.Sweep.{reached}
use Rattle.paper.specs.Table.{rooms, rec}
use Rattle.sweep.specs.declared.reach.Reached.{Reached}
use Rattle.sweep.specs.Listed.{inside}

abbrev pub marked : List Bool → ℕ → Bool
marked marks h = get_or marks h false

-- the heading that record i names is marked, if it is a heading
pub record Led (t : List ℕ) (marks : List Bool) (i : ℕ) : Type 0 where
  pub led : (h : ℕ) → byte (rec t h) 0 ≡ 1 → names h (rec t i) ≡ true → marked marks h ≡ true

-- .. by every entry of directory d
pub record Shut (t : List ℕ) (marks : List Bool) (d : ℕ) : Type 0 where
  pub each : (i : ℕ) → i < rooms t → inside t d i ≡ true → Led t marks i

-- .. by every base file's entry below n
pub record Based (t : List ℕ) (marks : List Bool) (n : ℕ) : Type 0 where
  pub each : (i : ℕ) → i < n → byte (rec t i) 0 ≡ 2 → is_base (rec t i) ≡ true → Led t marks i

-- what is marked is reached, and so is what stands in the queue, which is no longer than the headings marked
pub record Held (t : List ℕ) (r : Reached) : Type 0 where
  pub only : (h : ℕ) → marked r.marks h ≡ true → reached t h ≡ true
  pub waiting : (k : ℕ) → k < r.end → reached t (get_or r.queue k 0) ≡ true
  pub places : r.end ≤ count_below (marked r.marks) 2048
  pub long : length r.marks ≡ 2048
  pub queued : length r.queue ≡ 2048

-- heading h stands in the queue, from one place up to another
pub record Queued (queue : List ℕ) (from end h : ℕ) : Type 0 where
  pub place : ℕ
  pub past : from ≤ place
  pub below : place < end
  pub here : get_or queue place 0 ≡ h

-- marks and queue have grown: what is marked since stands in the queue since
pub record Grown (r s : Reached) : Type 0 where
  pub more : (h : ℕ) → marked r.marks h ≡ true → marked s.marks h ≡ true
  pub new : (h : ℕ) → marked s.marks h ≡ true → (marked r.marks h ≡ true) ⊎ Queued s.queue r.end s.end h
  pub keeps : (k : ℕ) → k < r.end → get_or s.queue k 0 ≡ get_or r.queue k 0
  pub up : r.end ≤ s.end

-- what is marked waits in the queue from a place on, or its entries have been followed
pub record Waits (t : List ℕ) (from : ℕ) (r : Reached) : Type 0 where
  pub each : (h : ℕ) → marked r.marks h ≡ true → Shut t r.marks h ⊎ Queued r.queue from r.end h

-- the marks say what is reached
pub record Reaches (t : List ℕ) (marks : List Bool) : Type 0 where
  pub each : (h : ℕ) → marked marks h ≡ reached t h
  pub long : length marks ≡ 2048
