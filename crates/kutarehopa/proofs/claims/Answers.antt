-- `kutarehopa::claims`.
use Rattle.kutarehopa.proofs.Numbers.{numbers-come-apart, reports-have-numbers, sends-have-numbers}
use Rattle.kutarehopa.proofs.Spelling.{packed-spells-itself, packed-again, looks-nowhere-else}
use Rattle.kutarehopa.proofs.AsTheCalls.{opened-is-packed, on-packed-states, runs-as-link, as-packed-again, no-call-made, refused-leaves-all, no-octet-no-change, no-state-is-out-of-bounds, rest-stays}
use Rattle.kutarehopa.proofs.Marked.{marked-octets, marked-numbers}
use Rattle.kutarehopa.proofs.claims.Goals as goal

pub returns : goal.returns
returns c = record { numbers_come_apart = (numbers-come-apart, reports-have-numbers, sends-have-numbers); packed_spells_itself = (packed-spells-itself, packed-again, looks-nowhere-else); opened_is_packed = (opened-is-packed, on-packed-states, runs-as-link); as_packed_again = (as-packed-again, no-call-made, refused-leaves-all, no-octet-no-change, no-state-is-out-of-bounds, rest-stays); marked_octets = (marked-octets, marked-numbers) }
