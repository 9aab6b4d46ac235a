-- CPY is granted as `grant` grants it, by the same two laws.
-- Of what is no CPY this promises what `grant` does.
use Rattle.elephant.proofs.Granted.{cpy-ready, cpy-done}
use Rattle.elephant.proofs.entrance.admit.Goals as goal

pub cpy-requires : goal.cpy-requires
cpy-requires c =
    cpy-ready c.requires c.in-Cpy.begin c.in-Cpy.at c.in-Cpy.new c.in-Cpy.lifetime c.in-Cpy.level c.in-Cpy.digit c.in-Cpy.is

pub returns : goal.returns
returns c =
    cpy-done c.requires c.args.reply.now c.args.stop _ _ c.in-Cpy.begin c.in-Cpy.at c.in-Cpy.new c.in-Cpy.lifetime c.in-Cpy.level
    c.in-Cpy.digit c.in-Cpy.is c.cpy.ensures
