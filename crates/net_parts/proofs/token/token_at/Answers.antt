use native.Mathlib.Omega.{arith}
use mathlib.Core.Path.{refl, sym, ◌∙◌}
use Rattle.net_parts.proofs.Tokening.{after_tokens, tokens_other, tokens_cut, tokens_missing, tokens_again, tokens_go, found}
use Rattle.net_parts.proofs.token.token_at.Goals as goal

pub returns-then-byte_at-ne25-clause-is : goal.returns-then-byte_at-ne25-clause-is
returns-then-byte_at-ne25-clause-is c = λ n ts b h. tokens_other _ n ts _ (λ e. c.if-byte_at-ne25.true (c.byte_at.ensures.0 ∙ e))

pub returns-then-file-next-clause-is : goal.returns-then-file-next-clause-is
returns-then-file-next-clause-is c =
    let e = sym c.byte_at.ensures.0 ∙ c.if-byte_at-ne25.false in let q = after_tokens c.args.file.now c.args.at e c.after-next.ensures in
    rw c.refused.ensures (λ n ts b h. tokens_cut _ n ts _ e (omega arith))

pub returns-in_default-clause-is : goal.returns-in_default-clause-is
returns-in_default-clause-is c =
    let e = sym c.byte_at.ensures.0 ∙ c.if-byte_at-ne25.false in let q = after_tokens c.args.file.now c.args.at e c.after-next.ensures in
    rw c.refused-in_default.ensures (λ n ts b h. tokens_missing _ n ts _ e (omega arith) _ _ refl c.word_at-rank.ensures.0 b (sym c.flat_at.ensures.is ∙ c.in_default.is))

pub returns-then-named-flat-ne0-clause-is : goal.returns-then-named-flat-ne0-clause-is
returns-then-named-flat-ne0-clause-is c =
    let e = sym c.byte_at.ensures.0 ∙ c.if-byte_at-ne25.false in let q = after_tokens c.args.file.now c.args.at e c.after-next.ensures in
    rw c.refused-then-named-flat-ne0.ensures (λ n ts b h. tokens_again _ n ts _ e (omega arith) _ _ refl c.word_at-rank.ensures.0 b (sym c.flat_at.ensures.is ∙ c.in-Some.is)
    c.args.named.now (omega (arith, rw c.in-Some.is at c.flat_at.ensures.small)) h c.if-named-flat-ne0.true)

pub returns : goal.returns
returns c =
    let e = sym c.byte_at.ensures.0 ∙ c.if-byte_at-ne25.false in let q = after_tokens c.args.file.now c.args.at e c.after-next.ensures in
    let f = found _ _ _ _ (sym c.flat_at.ensures.is ∙ c.in-Some.is) in let z = c.if-named-flat-ne0.false in
    record {
      is = λ n ts b h. tokens_go _ n ts _ e (omega arith) _ _ refl c.word_at-rank.ensures.0 b (sym c.flat_at.ensures.is ∙ c.in-Some.is) c.args.named.now (omega (arith, rw c.in-Some.is at c.flat_at.ensures.small)) h z c.word_at.ensures.0 q;
      room = (f.0, f.1, f.2, omega arith, omega arith, z, rw c.in-Some.is at c.flat_at.ensures.small);
    }

pub bounds-file-at : goal.bounds-file-at
bounds-file-at c = let q = after_tokens c.args.file.now c.args.at (sym c.byte_at.ensures.0 ∙ c.if-byte_at-ne25.false) c.after-next.ensures in omega arith
