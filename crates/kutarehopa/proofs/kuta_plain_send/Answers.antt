-- `kutarehopa::kuta_plain_send`.
use mathlib.Core.Path.{sym, subst}
use Prim.Native.Nat.{◌<◌}
use Rattle.link.specs.PlainSender.{PlainSent}
use Rattle.kutarehopa.specs.Numbers.{sent_value}
use Rattle.kutarehopa.proofs.Numbers.{sends-have-numbers}
use Rattle.kutarehopa.proofs.kuta_plain_send.Goals as goal

pub of_sent-requires : goal.of_sent-requires
of_sent-requires c = subst (λ (h : PlainSent). sent_value h.answer < 0x10000) (sym c.send.ensures) (sends-have-numbers _ _ _)
