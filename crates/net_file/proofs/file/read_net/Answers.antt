use borrow.Author.Rules.{rules}
use native.Mathlib.Omega.{arith}
use Rattle.std.proofs.lemmas.Result.{err_from_is_err_and}
use Rattle.net_parts.proofs.Tokening.{rising}
use Rattle.net_file.proofs.Whole.{net-long, opening_refused, sets_refused, variables_refused, places_refused, transitions_refused, tokens_refused, closing_refused, net_held}
use Rattle.net_file.proofs.file.read_net.Goals as goal

pub returns-then-file-gt16384 : goal.returns-then-file-gt16384
returns-then-file-gt16384 c = rw c.refused.ensures (net-long _ (search rules))

pub returns-in_err-next : goal.returns-in_err-next
returns-in_err-next c =
    let p = err_from_is_err_and c.from_residual.result c.from_residual.ensures.1 in
    rw (p.1, p.2) (opening_refused c.args.file.now c.if-file-gt16384.false _ c.opens.ensures.is c.in_err-next.was)

pub returns-in_err-sets : goal.returns-in_err-sets
returns-in_err-sets c =
    let p = err_from_is_err_and c.from_residual-in_err-sets.result c.from_residual-in_err-sets.ensures.1 in
    rw (p.1, p.2) (sets_refused c.args.file.now c.if-file-gt16384.false _ c.opens.ensures.is _ c.in_ok-next.was c.read_sets.new.sizes _ c.read_sets.ensures.is c.in_err-sets.was)

pub returns-in_err-variables : goal.returns-in_err-variables
returns-in_err-variables c =
    let p = err_from_is_err_and c.from_residual-in_err-variables.result c.from_residual-in_err-variables.ensures.1 in
    rw (p.1, p.2) (variables_refused c.args.file.now c.if-file-gt16384.false _ c.opens.ensures.is _ c.in_ok-next.was c.read_sets.new.sizes _ c.read_sets.ensures.is _ c.in_ok-sets.was c.read_variables.new.vars _ c.read_variables.ensures.is c.in_err-variables.was)

pub returns-in_err-places : goal.returns-in_err-places
returns-in_err-places c =
    let p = err_from_is_err_and c.from_residual-in_err-places.result c.from_residual-in_err-places.ensures.1 in
    rw (p.1, p.2) (places_refused c.args.file.now c.if-file-gt16384.false _ c.opens.ensures.is _ c.in_ok-next.was c.read_sets.new.sizes _ c.read_sets.ensures.is _ c.in_ok-sets.was c.read_variables.new.vars _ c.read_variables.ensures.is _ c.in_ok-variables.was c.read_places.new.kinds c.read_places.new.starts _ c.read_places.ensures.is c.in_err-places.was)

pub returns-in_err-transitions : goal.returns-in_err-transitions
returns-in_err-transitions c =
    let p = err_from_is_err_and c.from_residual-in_err-transitions.result c.from_residual-in_err-transitions.ensures.1 in
    rw (p.1, p.2) (transitions_refused c.args.file.now c.if-file-gt16384.false _ c.opens.ensures.is _ c.in_ok-next.was c.read_sets.new.sizes _ c.read_sets.ensures.is _ c.in_ok-sets.was c.read_variables.new.vars _ c.read_variables.ensures.is _ c.in_ok-variables.was c.read_places.new.kinds c.read_places.new.starts _ c.read_places.ensures.is _ c.in_ok-places.was c.read_transitions.new.heads c.read_transitions.new.arcs _ c.read_transitions.ensures c.in_err-transitions.was)

pub invariant_of-starts : goal.invariant_of-starts
invariant_of-starts c = let held = (rw c.in_ok-places.was at c.read_places.ensures.held) in record { rise = rising held (omega (arith, held.few)) }

pub returns-in_err-next-2 : goal.returns-in_err-next-2
returns-in_err-next-2 c =
    let p = err_from_is_err_and c.from_residual-in_err-next-2.result c.from_residual-in_err-next-2.ensures.1 in
    rw (p.1, p.2) (tokens_refused c.args.file.now c.if-file-gt16384.false _ c.opens.ensures.is _ c.in_ok-next.was c.read_sets.new.sizes _ c.read_sets.ensures.is _ c.in_ok-sets.was c.read_variables.new.vars _ c.read_variables.ensures.is _ c.in_ok-variables.was c.read_places.new.kinds c.read_places.new.starts _ c.read_places.ensures.is _ c.in_ok-places.was c.read_transitions.new.heads c.read_transitions.new.arcs _ c.read_transitions.ensures _ c.in_ok-transitions.was (rw c.in_ok-places.was at c.read_places.ensures.held) c.read_tokens.new.initial _ c.read_tokens.ensures c.in_err-next-2.was)

pub returns-in_err-closes : goal.returns-in_err-closes
returns-in_err-closes c =
    let p = err_from_is_err_and c.from_residual-in_err-closes.result c.from_residual-in_err-closes.ensures.1 in
    rw (p.1, p.2) (closing_refused c.args.file.now c.if-file-gt16384.false _ c.opens.ensures.is _ c.in_ok-next.was c.read_sets.new.sizes _ c.read_sets.ensures.is _ c.in_ok-sets.was c.read_variables.new.vars _ c.read_variables.ensures.is _ c.in_ok-variables.was c.read_places.new.kinds c.read_places.new.starts _ c.read_places.ensures.is _ c.in_ok-places.was c.read_transitions.new.heads c.read_transitions.new.arcs _ c.read_transitions.ensures _ c.in_ok-transitions.was (rw c.in_ok-places.was at c.read_places.ensures.held) c.read_tokens.new.initial _ c.read_tokens.ensures _ c.in_ok-next-2.was _ c.closes.ensures c.in_err-closes.was)

pub returns : goal.returns
returns c = net_held c.args.file.now c.if-file-gt16384.false _ c.opens.ensures.is _ c.in_ok-next.was c.read_sets.new.sizes _ c.read_sets.ensures.is _ c.in_ok-sets.was c.read_variables.new.vars _ c.read_variables.ensures.is _ c.in_ok-variables.was c.read_places.new.kinds c.read_places.new.starts _ c.read_places.ensures.is _ c.in_ok-places.was c.read_transitions.new.heads c.read_transitions.new.arcs _ c.read_transitions.ensures _ c.in_ok-transitions.was (rw c.in_ok-places.was at c.read_places.ensures.held) c.read_tokens.new.initial _ c.read_tokens.ensures _ c.in_ok-next-2.was _ c.closes.ensures c.in_ok-closes.was (rw c.in_ok-sets.was at c.read_sets.ensures.few).0 (rw c.in_ok-variables.was at c.read_variables.ensures.few).0 c.read_places.ensures.long
