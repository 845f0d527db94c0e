use Rattle.std.proofs.Common.{◌≡◌, true}
use Rattle.nbt_confirm.specs.declared.further.Further.{Further}
use Rattle.nbt_waits.proofs.Keeping.{follows_keeps, holds_back_keeps, leaves_keeps, passes_on_keeps, put_so, settles_keeps}
use Rattle.nbt_waits.proofs.laws.a_further_address_was_confirmed.Goals as goal

pub returns-clause-settled : goal.returns-clause-settled
returns-clause-settled c = λ holds table now outcome r confirmed old all is. settles_keeps (λ (row : Further). holds row.name row.addr ≡ true) (λ row holder until end is. is) table now outcome r confirmed old all (put_so holds confirmed is) (λ reached row at is. is)

pub returns-clause-held_back : goal.returns-clause-held_back
returns-clause-held_back c = λ holds table now r old all. holds_back_keeps (λ (row : Further). holds row.name row.addr ≡ true) (λ row holder until end is. is) table now r old all

pub returns-clause-passed_on : goal.returns-clause-passed_on
returns-clause-passed_on c = λ holds now name holder old all. passes_on_keeps (λ (row : Further). holds row.name row.addr ≡ true) (λ row holder until end is. is) now name holder old all

pub returns-clause-followed : goal.returns-clause-followed
returns-clause-followed c = λ holds lease now row old all. follows_keeps (λ (row : Further). holds row.name row.addr ≡ true) (λ row holder until end is. is) lease now row old all

pub returns-clause-left : goal.returns-clause-left
returns-clause-left c = λ holds now ip octets further m all. leaves_keeps (λ (row : Further). holds row.name row.addr ≡ true) (λ row holder until end is. is) now ip octets further m all
