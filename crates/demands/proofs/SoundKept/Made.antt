-- A new entry, with the stores before it: they leave the table sound but for the file that the entry is to name, and every entry as it was.
-- So the entry fits the record that was planned for it: the free one after the new file's, or that of the entry it displaces.
use mathlib.Core.Bool.{true}
use mathlib.Core.List.{List, [], ◌∷◌, ◌++◌}
use mathlib.Core.Logic.{◌⊎◌, inl, inr}
use mathlib.Core.Path.{◌≡◌, refl, sym, ap, ◌∙◌, subst}
use Prim.Native.Nat.{ℕ, ◌^◌, ◌<◌}
use native.Mathlib.Omega.{arith}
use lib.ListN.{length}
use borrow.Author.Tests.{eq-eqb}
use Rattle.paper.specs.Scan.{at, nowhere}
use Rattle.paper.specs.Record.{byte, entry_code, directory, holder_of, heading_named, user_of, heading_record}
use Rattle.paper.specs.Layout.{name_of, entry_record, boxed}
use Rattle.paper.specs.Table.{rooms, rec, lay, frees, room}
use Rattle.paper.specs.Declaration.{Part, or_else}
use Rattle.paper.specs.Line.{Word}
use Rattle.paper.specs.Code.{joined}
use Rattle.paper.specs.Entry.{Holder, holder, bears, find, crowd, limit}
use Rattle.paper.specs.Block.{blocks}
use Rattle.paper.specs.Sound.{is_base, holder_there}
use Rattle.paper.specs.Walk.{State, file, last_name}
use Rattle.paper.specs.Store.{Store, puts, run}
use Rattle.paper.specs.Effect.{Making, borne, new_file, chain_of, filing, linking}
use Rattle.laws.proofs.Tests.{or_left, or_right}
use Rattle.laws.proofs.Fields.{heading-length, entry-record-kind, length-entry, entry-holder, entry-heading, entry-user, entry-name}
use Rattle.laws.proofs.Entries.{found-bears, found-stands}
use Rattle.laws.proofs.Lay.{within}
use Rattle.laws.proofs.Runs.{run-append, rooms-run}
use Rattle.laws.proofs.Rooms.{room-below, room-kind}
use Rattle.demands.proofs.Sound.Clauses.{SoundBut, Sound}
use Rattle.demands.proofs.SoundKept.Built.{NewHeading, NewEntry, own-heading, own-entry}
use Rattle.demands.proofs.SoundKept.Grown.{Grown, grown-none, grown-stays, grown-find, grown-crowd}
use Rattle.demands.proofs.SoundKept.Filed.{roomy, length-file, heading-there, small, still-free, filed-grown}
use Rattle.demands.proofs.SoundKept.FiledSound.{grown-holder, NewFile, filed-sound}
use Rattle.demands.proofs.SoundKept.Placed.{Fits, placed-free, placed-over}

-- the stores before a new entry, which is to name heading o if that is new
pub record Before (o : ℕ) (t : List ℕ) (first : List Store) : Type 0 where
  pub sound : SoundBut o (run t first)
  pub grown : Grown t (run t first)
  pub next : length first < length (frees t) → byte (rec (run t first) (room t (length first))) 0 ≡ 0

-- none
pub before-none : (t : List ℕ) → Sound t → Before 65535 t []
unfolding run
before-none t c = record { sound = c; grown = grown-none t; next = room-kind t 0 }

-- a new file's
pub before-file : (t heading text : List ℕ) → Sound t → NewFile t heading text → Before (room t 0) t (new_file t heading text)
before-file t heading text c n =
    record {
      sound = filed-sound t heading text c n;
      grown = filed-grown t heading text n.laid c.few;
      next = λ l. still-free t heading text n.laid (length (new_file t heading text)) (omega (arith, length-file t heading text)) l;
    }

-- a new entry: the stores before it, and its record in the table after them
pub record Made (o : ℕ) (t : List ℕ) (m : Making) : Type 0 where
  pub before : Before o t m.first
  pub fits : Fits o (run t m.first) m.entry
  pub place : holder m.entry ≡ m.directory.holder
  pub name : name_of boxed m.entry ≡ m.name

module _ (o : ℕ) (t : List ℕ) (m : Making) (c : Sound t) (d : Made o t m) where
  abbrev f : List ℕ
  f = run t m.first

  found-there : find boxed f (holder m.entry) (name_of boxed m.entry) ≡ borne boxed t m
  found-there =
      ap (λ (x : Holder). find boxed f x (name_of boxed m.entry)) d.place ∙ ap (find boxed f m.directory.holder) d.name
      ∙ grown-find t f d.before.grown m.directory.holder m.name

  -- nothing is displaced, the place is not full, and there is room: the table is sound
  pub made-sound : borne boxed t m ≡ nowhere → crowd t m.directory.holder < limit m.directory.holder → length m.first < length (frees t)
      → Sound (run t (m.first ++ puts (room t (length m.first)) m.entry ∷ []))
  unfolding run
  made-sound b l k =
      rw (run-append t m.first (puts (room t (length m.first)) m.entry ∷ []))
      (placed-free o f (room t (length m.first)) m.entry d.before.sound d.fits
      (rw rooms-run (room-below t _ k)) (d.before.next k) (found-there ∙ b) roomy)
    where
      roomy : crowd f (holder m.entry) < limit (holder m.entry)
      roomy = subst (λ (x : Holder). crowd f x < limit x) (sym d.place) (rw (grown-crowd t f d.before.grown m.directory.holder) l)

  -- an entry is displaced: it is as it was, and the table is sound but for its file
  module _ (e : ℕ) (b : borne boxed t m ≡ at e) where
    pub displaced-same : rec f e ≡ rec t e
    displaced-same = grown-stays t f d.before.grown e c.whole (omega (arith, (found-stands t m.directory.holder m.name e b).1.kind))

    pub made-over : SoundBut (heading_named (rec t e)) (lay (run t m.first) e m.entry)
    made-over =
        rw displaced-same at
        (placed-over o f e m.entry d.before.sound d.fits (rw rooms-run there.0)
        (rw displaced-same
        (subst (λ (x : Holder). bears boxed x (name_of boxed m.entry) (rec t e) ≡ true) (sym d.place) (rw d.name there.1))))
      where
        there : (e < rooms t) × (bears boxed m.directory.holder m.name (rec t e) ≡ true)
        there = found-bears t m.directory.holder m.name e b

-- ---- the entries of CRD, WRS, CPY and DUP

-- where an entry of this code and name may be laid in t
pub record Entered (t : List ℕ) (d : Holder) (code : ℕ) (name : List ℕ) : Type 0 where
  pub fields : NewEntry code d.heading d.user name
  pub there : (d.heading ≡ 65535) ⊎ (directory (rec t d.heading) ≡ true)

module _ (t : List ℕ) (d : Holder) (code heading : ℕ) (name : List ℕ) (x : Entered t d code name) where
  abbrev r : List ℕ
  r = entry_record boxed code d.heading heading d.user name

  at-heading : holder_of r ≡ d.heading
  at-heading = entry-holder code d.heading heading d.user name x.fields.holders

  at-user : user_of r ≡ d.user
  at-user = entry-user code d.heading heading d.user name (omega (arith, x.fields.users))

  entry_place : holder r ≡ d
  entry_place = λ i. record { heading = at-heading i; user = at-user i }

  entry_named : name_of boxed r ≡ name
  entry_named = entry-name code d.heading heading d.user name x.fields.legal

  entry-held : holder_there t 0 r ≡ true
  entry-held = go x.there
    where
      go : (d.heading ≡ 65535) ⊎ (directory (rec t d.heading) ≡ true) → holder_there t 0 r ≡ true
      go (inl e) = or_left (is_base r) _ (eq-eqb _ _ (at-heading ∙ e))
      go (inr e) = or_right (is_base r) _ (rw at-heading e)

  -- in a grown table that has the heading it names
  entry-fits : (o : ℕ) (f : List ℕ) → Sound t → Grown t f → heading < 256 ^ 2 → byte (rec f heading) 0 ≡ 1 → (o ≡ heading) ⊎ (o ≡ 65535) → Fits o f r
  entry-fits o f c g l k n =
      let e : heading_named r ≡ heading = entry-heading code d.heading heading d.user name l in
      record {
        size = length-entry code d.heading heading d.user name;
        kind = entry-record-kind code d.heading heading d.user name;
        own = own-entry code d.heading heading d.user name x.fields;
        held = grown-holder t f c g 0 r entry-held;
        target = rw e k;
        new = rw e n;
      }

-- a file's heading
pub new-file : (t : List ℕ) (type lev code life : ℕ) (text : List ℕ) → NewHeading type lev code life (length text) → blocks (length text) < length (frees t)
    → NewFile t (heading_record type lev code life (length text)) text
new-file t type lev code life text h l =
    record {
      laid = roomy t type lev code life (length text) text l;
      own = own-heading type lev code life (length text) h;
      bytes = heading-length type lev code life (length text) (omega (arith, h.size));
      short = h.size;
    }

-- CRD, WRS, CPY: a new file and its entry
pub filing-made : (t : List ℕ) (place : ℕ) (w : Word) (d : State) (code : ℕ) (heading text : List ℕ) → Sound t → NewFile t heading text
    → Entered t d.holder code (last_name (chain_of w)) → Made (room t 0) t (filing boxed t place w d code heading text)
filing-made t place w d code heading text c n x =
    let b = before-file t heading text c n in
    record {
      before = b;
      fits =
          entry-fits t d.holder code (room t 0) (last_name (chain_of w)) x (room t 0) (run t (new_file t heading text)) c b.grown
          (small t heading text n.laid c.few) (rw (heading-there t heading text n.laid) n.laid.kind) (inl refl);
      place = entry_place t d.holder code (room t 0) (last_name (chain_of w)) x;
      name = entry_named t d.holder code (room t 0) (last_name (chain_of w)) x;
    }

-- DUP: an entry for a heading that is there
pub linking-made : (t : List ℕ) (f d : State) (new : Word) (code : Part) → Sound t → byte (rec t (file t f)) 0 ≡ 1
    → Entered t d.holder (joined (entry_code (rec t f.entry)) (or_else code 0)) (last_name (chain_of new))
    → Made 65535 t (linking boxed t f d new code)
unfolding run
linking-made t f d new code c k x =
    let heading : ℕ = file t f in
    let both : ℕ = joined (entry_code (rec t f.entry)) (or_else code 0) in
    let name : List ℕ = last_name (chain_of new) in
    let l : heading < rooms t = within t heading c.whole (omega arith) in
    record {
      before = before-none t c;
      fits = entry-fits t d.holder both heading name x 65535 t c (grown-none t) (omega (arith, c.few)) k (inr refl);
      place = entry_place t d.holder both heading name x;
      name = entry_named t d.holder both heading name x;
    }
