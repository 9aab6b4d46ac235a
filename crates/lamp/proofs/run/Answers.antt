-- The job is refused, and nothing is touched; or it passes, and then all its texts are there; a sheet is not filed, or not read back, or all are.
-- Each is the definition, by its case.
use Rattle.std.proofs.lemmas.Result.{err_from_is_err_and}
use Rattle.lamp.proofs.Refusals.{lit_refused, texts-there}
use Rattle.lamp.proofs.Lights.{unfiled, unread, read}
use Rattle.lamp.proofs.run.Goals as goal

pub returns-in_err-admit : goal.returns-in_err-admit
returns-in_err-admit c =
    let p = err_from_is_err_and c.from_residual.result c.from_residual.ensures.1 in
    rw (p.1, p.2) (lit_refused _ _ _ _ _ _ _ _ _ c.in_err-admit.ensures)

pub file_all-requires : goal.file_all-requires
file_all-requires c = texts-there _ _ _ c.in_ok-admit.ensures

pub returns-in_err-stores : goal.returns-in_err-stores
returns-in_err-stores c =
    let p = err_from_is_err_and c.from_residual-in_err-stores.result c.from_residual-in_err-stores.ensures.1 in
    rw (p.1, p.2) (unfiled _ _ _ _ _ _ _ _ c.in_ok-admit.ensures _ _ _ c.in_err-stores.ensures)

pub read_all-requires : goal.read_all-requires
read_all-requires c = texts-there _ _ _ c.in_ok-admit.ensures

pub returns-in_err-read_all : goal.returns-in_err-read_all
returns-in_err-read_all c =
    let p = err_from_is_err_and c.from_residual-in_err-read_all.result c.from_residual-in_err-read_all.ensures.1 in
    rw (p.1, p.2) (unread _ _ _ _ _ _ _ _ c.in_ok-admit.ensures _ _ _ c.in_ok-stores.ensures _ _ _ _ c.in_err-read_all.ensures)

pub returns : goal.returns
returns c = read _ _ _ _ _ _ _ _ c.in_ok-admit.ensures _ _ _ c.in_ok-stores.ensures _ _ _ c.in_ok-read_all.ensures
