use Rattle.chaos_lab.proofs.Plays.{reads_begin, rfc_is_first, asking_waits, unasked_is_new, knows_sides, others_name_index, open_has_read, unread_is_alone}
use Rattle.chaos_lab.proofs.Held.{comes_held}
use Rattle.chaos_lab.proofs.law.law_kept.Goals as goal

pub returns-clause-begins : goal.returns-clause-begins
returns-clause-begins c = reads_begin

pub returns-clause-requests : goal.returns-clause-requests
returns-clause-requests c = rfc_is_first

pub returns-clause-waits : goal.returns-clause-waits
returns-clause-waits c = asking_waits

pub returns-clause-unasked : goal.returns-clause-unasked
returns-clause-unasked c = unasked_is_new

pub returns-clause-sides : goal.returns-clause-sides
returns-clause-sides c = knows_sides

pub returns-clause-index : goal.returns-clause-index
returns-clause-index c = others_name_index

pub returns-clause-opened : goal.returns-clause-opened
returns-clause-opened c = open_has_read

pub returns-clause-alone : goal.returns-clause-alone
returns-clause-alone c = unread_is_alone

pub returns-clause-held : goal.returns-clause-held
returns-clause-held c = comes_held
