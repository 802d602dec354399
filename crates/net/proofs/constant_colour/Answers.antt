use Rattle.std.proofs.Common.{ap, get_or, ◌+◌, arith, refl, ◌∙◌}
use Rattle.reading.proofs.Commands.{tests, needs_cut, needs_fails, needs_goes}
use Rattle.net.specs.Net.{set_of, in_colour}
use Rattle.net.specs.internal.ReaderEnums.{bits, answer_of}
use Rattle.net.proofs.Shut.{commands}
use Rattle.net.proofs.Colours.{wide, told, within}
use Rattle.net.proofs.constant_colour.Goals as goal

pub returns-then-scope-next : goal.returns-then-scope-next
unfolding commands
returns-then-scope-next c places =
    let a = c.after-next.ensures 2 (wide c.args.scope.now.file.now c.args.at 0x31 2 c.requires refl) in
    ap answer_of c.refused.ensures ∙ told _ _ _ _ (needs_cut _ _ 0x31 _ c.requires refl (omega arith))

pub bounds-scope-at : goal.bounds-scope-at
unfolding commands
bounds-scope-at c =
    let a = c.after-next.ensures 2 (wide c.args.scope.now.file.now c.args.at 0x31 2 c.requires refl) in omega arith

pub bounds-scope-at-2 : goal.bounds-scope-at-2
unfolding commands
bounds-scope-at-2 c =
    let a = c.after-next.ensures 2 (wide c.args.scope.now.file.now c.args.at 0x31 2 c.requires refl) in omega arith

pub returns-then-element-scope : goal.returns-then-element-scope
unfolding commands
returns-then-element-scope c places =
    let a = c.after-next.ensures 2 (wide c.args.scope.now.file.now c.args.at 0x31 2 c.requires refl) in
    ap answer_of c.refused-then-element-scope.ensures ∙ told _ _ _ _ (needs_fails _ _ 0x31 _ c.requires refl {k = 5} (omega arith) (search tests))

pub returns-then-left-eq0 : goal.returns-then-left-eq0
unfolding commands
returns-then-left-eq0 c places =
    let a = c.after-next.ensures 2 (wide c.args.scope.now.file.now c.args.at 0x31 2 c.requires refl) in
    let i = within c.args.scope.now.sizes.now (get_or c.args.scope.now.file.now (c.args.at + 1) 0) (get_or c.args.scope.now.file.now (c.args.at + 2) 0) (omega arith) in
    ap answer_of c.refused-then-left-eq0.ensures ∙ told _ _ _ _ (needs_fails _ _ 0x31 _ c.requires refl {k = 7} (omega arith) (search tests))

pub returns : goal.returns
unfolding bits commands in_colour set_of
returns c places =
    let a = c.after-next.ensures 2 (wide c.args.scope.now.file.now c.args.at 0x31 2 c.requires refl) in
    let i = within c.args.scope.now.sizes.now (get_or c.args.scope.now.file.now (c.args.at + 1) 0) (get_or c.args.scope.now.file.now (c.args.at + 2) 0) (omega arith) in
    rw (a, c.from.ensures) (told _ _ _ _ (needs_goes _ _ 0x31 _ c.requires refl (omega arith) (search tests)))
