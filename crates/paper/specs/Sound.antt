-- "A table is sound when": one computed test, a named clause for each part of the sentence.
use Rattle.std.specs.Prelude.{Bool, true, false, ◌&&◌, ◌||◌, not, cond, List, ℕ, ◌+◌, ◌-◌, eqb, leb, ltb}
use Rattle.paper.specs.Scan.{all_below, any_below, count_below}
use Rattle.paper.specs.Record.{byte, is_kind, heading_type, level, heading_code, lifetime, text_length, mark, directory, simple, entry_code, holder_of, heading_named, user_of, bytes_held, heading_of, position, text_at, zeros}
use Rattle.paper.specs.Layout.{Layout, name_of}
use Rattle.paper.specs.Table.{rooms, rec}
use Rattle.paper.specs.Name.{link_name, legal_base}
use Rattle.paper.specs.Entry.{holder, bears, crowd, limit, named}
use Rattle.paper.specs.Block.{blocks, share}
use Rattle.paper.specs.Count.{counts_right}

-- if the first then the second
abbrev pub implies : Bool → Bool → Bool
implies true b = b
implies false b = true

-- every record of kind k passes
abbrev pub every : ℕ → (ℕ → List ℕ → Bool) → List ℕ → Bool
every k test t = all_below (λ i. implies (is_kind k (rec t i)) (test i (rec t i))) (rooms t)

-- "every record is as above", by its kind
abbrev pub free_as_above : ℕ → List ℕ → Bool
free_as_above i r = zeros 0 32 r

-- document 02: "A marked file, simple, M, length 0, is sound": byte 5 is 0, or 1 in such a heading
abbrev pub mark_right : List ℕ → Bool
mark_right r = eqb (mark r) 0 || (eqb (mark r) 1 && (eqb (heading_type r) 1 && (eqb (lifetime r) 1 && eqb (text_length r) 0)))

abbrev pub heading_as_above : ℕ → List ℕ → Bool
heading_as_above i r =
    leb (heading_type r) 1 && leb (level r) 3 && leb (heading_code r) 7 && leb 1 (lifetime r) && leb (lifetime r) 2
    && mark_right r && zeros 6 4 r && implies (eqb (heading_type r) 1) (zeros 14 2 r) && zeros 16 16 r

abbrev pub entry_as_above : Layout → ℕ → List ℕ → Bool
entry_as_above L i r = leb (entry_code r) 7 && L.as_above r

abbrev pub text_as_above : ℕ → List ℕ → Bool
text_as_above i r =
    leb 1 (bytes_held r) && leb (bytes_held r) 24 && zeros 6 2 r && zeros (8 + bytes_held r) (24 - bytes_held r) r

unfoldable pub as_above : Layout → List ℕ → Bool
as_above L t =
    all_below (λ i. leb (byte (rec t i) 0) 3) (rooms t)
    && every 0 free_as_above t && every 1 heading_as_above t && every 2 (entry_as_above L) t && every 3 text_as_above t

-- the entry is a base file's
abbrev pub is_base : List ℕ → Bool
is_base r = eqb (holder_of r) 65535

-- "each entry's directory is a directory heading or 65,535"
abbrev pub holder_there : List ℕ → ℕ → List ℕ → Bool
holder_there t i r = is_base r || directory (rec t (holder_of r))

unfoldable pub holders_there : List ℕ → Bool
holders_there t = every 2 (holder_there t) t

-- "each entry names a heading"
abbrev pub heading_there : List ℕ → ℕ → List ℕ → Bool
heading_there t i r = is_kind 1 (rec t (heading_named r))

unfoldable pub headings_there : List ℕ → Bool
headings_there t = every 2 (heading_there t) t

-- "a base file's user is at most 999,999 and any other entry's user bytes are zero"
abbrev pub user_right : ℕ → List ℕ → Bool
user_right i r = cond (is_base r) (leb (user_of r) 999999) (eqb (user_of r) 0)

unfoldable pub users_right : List ℕ → Bool
users_right t = every 2 user_right t

-- "as are name bytes past the length"
abbrev pub name_padded : Layout → ℕ → List ℕ → Bool
name_padded L i r = L.padded r

unfoldable pub names_padded : Layout → List ℕ → Bool
names_padded L t = every 2 (name_padded L) t

-- "no directory, and no one user's base list, has a name twice": no entry before it bears the same name there
abbrev pub not_twice : Layout → List ℕ → ℕ → List ℕ → Bool
not_twice L t i r = not (any_below (λ j. bears L (holder r) (name_of L r) (rec t j)) i)

unfoldable pub none_twice : Layout → List ℕ → Bool
none_twice L t = every 2 (not_twice L t) t

-- "every heading is named by an entry"
abbrev pub is_named : List ℕ → ℕ → List ℕ → Bool
is_named t i r = named t i

unfoldable pub all_named : List ℕ → Bool
all_named t = every 1 (is_named t) t

-- "a directory has at most 112 entries and a user at most 100 base files"
abbrev pub not_crowded : List ℕ → ℕ → List ℕ → Bool
not_crowded t i r = leb (crowd t (holder r)) (limit (holder r))

unfoldable pub none_crowded : List ℕ → Bool
none_crowded t = every 2 (not_crowded t) t

-- "a directory has lifetime M and length 0"
abbrev pub directory_plain : ℕ → List ℕ → Bool
directory_plain i r = implies (eqb (heading_type r) 0) (eqb (lifetime r) 1 && eqb (text_length r) 0)

unfoldable pub directories_plain : List ℕ → Bool
directories_plain t = every 1 directory_plain t

-- "a simple file of length n (at most 24,000) has each text position from 0 up to n/24 rounded up, less one, exactly once"
abbrev pub once : List ℕ → ℕ → ℕ → Bool
once t h p = eqb (count_below (λ i. text_at h p (rec t i)) (rooms t)) 1

abbrev pub text_whole : List ℕ → ℕ → List ℕ → Bool
text_whole t i r =
    implies (eqb (heading_type r) 1) (leb (text_length r) 24000 && all_below (once t i) (blocks (text_length r)))

unfoldable pub texts_whole : List ℕ → Bool
texts_whole t = every 1 (text_whole t) t

-- text record r is in place in the file of heading h: "24 bytes in each but the last, which holds the rest"
abbrev pub in_place : List ℕ → List ℕ → Bool
in_place h r =
    simple h && (ltb (position r) (blocks (text_length h)) && eqb (bytes_held r) (share (text_length h) (position r)))

-- "there is no other text"
abbrev pub text_in_place : List ℕ → ℕ → List ℕ → Bool
text_in_place t i r = in_place (rec t (heading_of r)) r

unfoldable pub no_other_text : List ℕ → Bool
no_other_text t = every 3 (text_in_place t) t

-- "names are legal"
abbrev pub name_legal : Layout → ℕ → List ℕ → Bool
name_legal L i r = link_name (name_of L r) && implies (is_base r) (legal_base (name_of L r))

unfoldable pub names_legal : Layout → List ℕ → Bool
names_legal L t = every 2 (name_legal L) t

-- document 02: "Soundness says that both are true."
unfoldable pub counts_true : List ℕ → Bool
counts_true t = every 1 (counts_right t) t

-- all of it but the counts
unfoldable pub shaped : Layout → List ℕ → Bool
shaped L t =
    as_above L t && holders_there t && headings_there t && users_right t && names_padded L t && none_twice L t && all_named t
    && none_crowded t && directories_plain t && texts_whole t && no_other_text t && names_legal L t

unfoldable pub sound : Layout → List ℕ → Bool
sound L t = shaped L t && counts_true t
