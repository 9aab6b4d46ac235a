-- The 12 of a reading does come: in `.R`, whose entry A names `.R` itself, the chain `.R:A` leads to `.R`, and a sheet A filed there
-- displaces that entry. So the chain now leads to a simple file. Every definition computes.
use mathlib.Core.List.{List, [], ◌∷◌, ◌++◌}
use mathlib.Core.Path.{◌≡◌, refl}
use Prim.Native.Nat.{ℕ}
use lib.ListN.{take, replicate}
use Rattle.paper.specs.Record.{blank, heading_record}
use Rattle.paper.specs.Layout.{entry_record, boxed}
use Rattle.paper.proofs.Cases.{hold}
use Rattle.job.specs.Sheet.{unpadded, link_of, formed, start, sheet, job}
use Rattle.job.specs.Refusal.{each, admission}
use Rattle.job.specs.Filing.{wrs_line, filed, filing_by}
use Rattle.job.specs.Reading.{rds_line, read_back, brought, reading_by}
use Rattle.job.specs.Lamp.{red, lit}

-- `CRD .R`, `DUP .R .R:A`: a directory, named by two entries and with one, its base entry of user 1, and its own entry A; and one free record
abbrev looped : List ℕ
looped =
    take 12 (heading_record 0 0 0 1 0) ++ 2 ∷ 0 ∷ 1 ∷ replicate 17 0
    ++ entry_record boxed 0 65535 0 1 (46 ∷ 82 ∷ []) ++ entry_record boxed 0 0 0 0 (65 ∷ []) ++ blank

-- one sheet, A, without text
abbrev sheet_a : List ℕ
sheet_a = 65 ∷ replicate 31 0

-- `.R:A`
abbrev chain_ra : List ℕ
chain_ra = 46 ∷ 82 ∷ 58 ∷ 65 ∷ []

pub twelve-comes : (lit looped sheet_a [] [] chain_ra 1 9).answer ≡ red 2 1 12 4
unfolding hold unpadded link_of formed start sheet job each admission wrs_line filed filing_by rds_line read_back brought reading_by lit
twelve-comes = refl
