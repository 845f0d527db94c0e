use Rattle.std.proofs.Common.{inl, inr}
use Rattle.std.proofs.lemmas.Option.{IfSome_then}
use Rattle.nbt_scan.proofs.Spelling.{last_ip, last_number}
use Rattle.nbt_scan.proofs.words.last_of.Goals as goal

pub returns-in-Some-clause-found : goal.returns-in-Some-clause-found
returns-in-Some-clause-found c = IfSome_then c.ip_of.result c.ip_of.ensures.found (λ last is. inl (c.in-Some.ensures.0, is))

pub returns-in-Some-clause-none : goal.returns-in-Some-clause-none
returns-in-Some-clause-none c = last_ip c.args.first c.args.text.now c.ip_of.result c.in-Some.ensures.0 c.ip_of.ensures.none

pub returns-in-None-clause-found : goal.returns-in-None-clause-found
returns-in-None-clause-found c = IfSome_then c.last_by.result c.last_by.ensures.found (λ last is. inr (is.0, c.in-None.ensures, is.1, is.2))

pub returns-in-None-clause-none : goal.returns-in-None-clause-none
returns-in-None-clause-none c = last_number c.args.first c.args.text.now c.last_by.result c.in-None.ensures c.last_by.ensures.none
