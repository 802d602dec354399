use Rattle.std.proofs.Common.{ap, arith, refl, sym, get_or, ◌+◌, ◌∙◌}
use Rattle.reading.proofs.Commands.{tests, fails, later, passes, needs_cut, needs_fails, needs_goes}
use Rattle.net.specs.Net.{set_of, in_colour}
use Rattle.net.specs.internal.ReaderEnums.{answer_of}
use Rattle.net.proofs.Shut.{commands}
use Rattle.net.proofs.Colours.{wide, told, bits_one}
use Rattle.net.proofs.variable_colour.Goals as goal

pub returns-then-scope-next : goal.returns-then-scope-next
unfolding commands
returns-then-scope-next c places =
    let a = c.after-next.ensures 1 (wide c.args.scope.now.file.now c.args.at 0x30 1 c.requires refl) in
    ap answer_of c.refused.ensures ∙ told _ _ _ _ (needs_cut _ _ 0x30 _ c.requires refl (omega arith))

pub bounds-scope-at : goal.bounds-scope-at
unfolding commands
bounds-scope-at c =
    let a = c.after-next.ensures 1 (wide c.args.scope.now.file.now c.args.at 0x30 1 c.requires refl) in omega arith

pub returns-in_default : goal.returns-in_default
unfolding commands
returns-in_default c places =
    let a = c.after-next.ensures 1 (wide c.args.scope.now.file.now c.args.at 0x30 1 c.requires refl) in
    ap answer_of c.refused-in_default.ensures ∙ told _ _ _ _ (needs_fails _ _ 0x30 _ c.requires refl (omega arith) (fails {k = 5} (sym c.in_default.ensures.lookup.0)))

pub returns-then-left-eq0 : goal.returns-then-left-eq0
unfolding commands
returns-then-left-eq0 c places =
    let a = c.after-next.ensures 1 (wide c.args.scope.now.file.now c.args.at 0x30 1 c.requires refl) in
    ap answer_of c.refused-then-left-eq0.ensures
    ∙ told _ _ _ _ (needs_fails _ _ 0x30 _ c.requires refl {k = 7} (omega arith) (later (sym c.in-Some.ensures.lookup.0) (search tests)))

pub returns : goal.returns
unfolding commands in_colour set_of
returns c places =
    let a = c.after-next.ensures 1 (wide c.args.scope.now.file.now c.args.at 0x30 1 c.requires refl) in
    let l = c.in-Some.ensures.lookup in
    rw (a, c.from.ensures, l.3.1 0, c.alone.ensures, ← bits_one (get_or c.args.scope.now.file.now (c.args.at + 1) 0) 32 (omega arith))
    (told _ _ _ _ (needs_goes _ _ 0x30 _ c.requires refl (omega arith) (passes (sym l.0) (search tests))))
