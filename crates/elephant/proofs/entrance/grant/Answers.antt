-- Each arm: what was read gives what its function requires, and that function's promise is the request's.
-- The laws stand in `Granted`, one of each kind for a function.
use native.Mathlib.Omega.{arith}
use Rattle.elephant.proofs.Granted.{line-short, crd-ready, wrs-ready, cpy-ready, dup-ready, chn-ready, remove-ready, rewrite-ready, crd-done, wrs-done, rds-done, cpy-done, dup-done, chn-done, remove-done, dpr-done, rewrite-done, lst-done, lst-base-done, lst-tree-done, lst-base-tree-done}
use Rattle.elephant.specs.declared.removal.Removal.TheVariants.{Delete, Destroy}
use Rattle.elephant.proofs.entrance.grant.Goals as goal

pub crd-requires : goal.crd-requires
crd-requires c =
    crd-ready c.requires c.in-Crd.name c.in-Crd.level c.in-Crd.digit c.in-Crd.is

pub wrs-requires : goal.wrs-requires
wrs-requires c =
    wrs-ready c.requires c.in-Wrs.lifetime c.in-Wrs.level c.in-Wrs.digit c.in-Wrs.name c.in-Wrs.is

pub read-requires : goal.read-requires
read-requires c =
    (c.requires.fit, line-short c.requires)

pub cpy-requires : goal.cpy-requires
cpy-requires c =
    cpy-ready c.requires c.in-Cpy.begin c.in-Cpy.at c.in-Cpy.new c.in-Cpy.lifetime c.in-Cpy.level c.in-Cpy.digit c.in-Cpy.is

pub dup-requires : goal.dup-requires
dup-requires c =
    dup-ready c.requires c.in-Dup.from c.in-Dup.old c.in-Dup.to c.in-Dup.new c.in-Dup.digit c.in-Dup.is

pub chn-requires : goal.chn-requires
chn-requires c =
    (c.requires.fit, chn-ready c.requires c.in-Chn.old c.in-Chn.link c.in-Chn.is, line-short c.requires)

pub overflow_cast-names : goal.overflow_cast-names
overflow_cast-names c =
    let d = remove-ready c.requires Delete c.in-Del.first c.in-Del.count c.in-Del.is in
    omega (arith, d.2)

pub remove-requires : goal.remove-requires
remove-requires c =
    let d = remove-ready c.requires Delete c.in-Del.first c.in-Del.count c.in-Del.is in
    (c.requires.fit, d.0, d.1, line-short c.requires)

pub overflow_cast-names-in-Dst : goal.overflow_cast-names-in-Dst
overflow_cast-names-in-Dst c =
    let d = remove-ready c.requires Destroy c.in-Dst.first c.in-Dst.count c.in-Dst.is in
    omega (arith, d.2)

pub remove-requires-in-Dst : goal.remove-requires-in-Dst
remove-requires-in-Dst c =
    let d = remove-ready c.requires Destroy c.in-Dst.first c.in-Dst.count c.in-Dst.is in
    (c.requires.fit, d.0, d.1, line-short c.requires)

pub dpr-requires : goal.dpr-requires
dpr-requires c =
    (c.requires.fit, line-short c.requires)

pub read-requires-in-Lst : goal.read-requires-in-Lst
read-requires-in-Lst c =
    (c.requires.fit, line-short c.requires)

pub read-requires-in-LstTree : goal.read-requires-in-LstTree
read-requires-in-LstTree c =
    (c.requires.fit, line-short c.requires)

pub rewrite-requires : goal.rewrite-requires
rewrite-requires c =
    (c.requires.fit, line-short c.requires, rewrite-ready c.requires c.in-Rewrite.name c.in-Rewrite.is)

pub returns-in-Crd : goal.returns-in-Crd
returns-in-Crd c =
    crd-done c.requires c.args.reply.now c.args.stop _ _ c.in-Crd.name c.in-Crd.level c.in-Crd.digit c.in-Crd.is c.crd.ensures

pub returns-in-Wrs : goal.returns-in-Wrs
returns-in-Wrs c =
    wrs-done c.requires c.args.reply.now c.args.stop _ _ c.in-Wrs.lifetime c.in-Wrs.level c.in-Wrs.digit c.in-Wrs.name c.in-Wrs.is
    c.wrs.ensures

pub returns-in-Rds : goal.returns-in-Rds
returns-in-Rds c =
    rds-done c.requires c.args.reply.now c.args.stop _ _ c.in-Rds.begin c.in-Rds.at c.in-Rds.first c.in-Rds.count c.in-Rds.is
    c.read.ensures

pub returns-in-Cpy : goal.returns-in-Cpy
returns-in-Cpy c =
    cpy-done c.requires c.args.reply.now c.args.stop _ _ c.in-Cpy.begin c.in-Cpy.at c.in-Cpy.new c.in-Cpy.lifetime c.in-Cpy.level
    c.in-Cpy.digit c.in-Cpy.is c.cpy.ensures

pub returns-in-Dup : goal.returns-in-Dup
returns-in-Dup c =
    dup-done c.requires c.args.reply.now c.args.stop _ _ c.in-Dup.from c.in-Dup.old c.in-Dup.to c.in-Dup.new c.in-Dup.digit c.in-Dup.is
    c.dup.ensures

pub returns-in-Chn : goal.returns-in-Chn
returns-in-Chn c =
    chn-done c.requires c.args.reply.now c.args.stop _ _ c.in-Chn.old c.in-Chn.link c.in-Chn.is c.chn.ensures

pub returns-in-Del : goal.returns-in-Del
returns-in-Del c =
    remove-done c.requires c.args.reply.now c.args.stop _ _ Delete c.in-Del.first c.in-Del.count c.in-Del.is c.remove.ensures

pub returns-in-Dst : goal.returns-in-Dst
returns-in-Dst c =
    remove-done c.requires c.args.reply.now c.args.stop _ _ Destroy c.in-Dst.first c.in-Dst.count c.in-Dst.is c.remove-in-Dst.ensures

pub returns-in-Dpr : goal.returns-in-Dpr
returns-in-Dpr c =
    dpr-done c.requires c.args.reply.now c.args.stop _ _ c.in-Dpr.name c.in-Dpr.code c.in-Dpr.is c.dpr.ensures

pub returns-in-Lst : goal.returns-in-Lst
returns-in-Lst c =
    lst-done c.requires c.args.reply.now c.args.stop _ _ c.in-Lst.begin c.in-Lst.at c.in-Lst.is c.read-in-Lst.ensures

pub returns-in-LstBase : goal.returns-in-LstBase
returns-in-LstBase c =
    lst-base-done c.requires c.args.reply.now c.args.stop _ _ c.in-LstBase.is c.lst_base.ensures

pub returns-in-LstTree : goal.returns-in-LstTree
returns-in-LstTree c =
    lst-tree-done c.requires c.args.reply.now c.args.stop _ _ c.in-LstTree.begin c.in-LstTree.at c.in-LstTree.depth c.in-LstTree.is c.read-in-LstTree.ensures

pub returns-in-LstBaseTree : goal.returns-in-LstBaseTree
returns-in-LstBaseTree c =
    lst-base-tree-done c.requires c.args.reply.now c.args.stop _ _ c.in-LstBaseTree.depth c.in-LstBaseTree.is c.lst_base_tree.ensures

pub returns-in-Rewrite : goal.returns-in-Rewrite
returns-in-Rewrite c =
    rewrite-done c.requires c.args.reply.now c.args.stop _ _ c.in-Rewrite.name c.in-Rewrite.is c.rewrite.ensures
