use Rattle.nbt_c.proofs.Common.{◌≡◌, ℕ, Option, Some, sym, ap, subst, ◌∙◌, Addr, NameValue, CallerValue, CName, addr_of, none_of}
use Rattle.nbt_session.specs.declared.caller.CallerState.TheVariants.{Connecting}
use Rattle.nbt_c.specs.Calling as is
use Rattle.nbt_c.specs.Calling.{Begins}
use Rattle.nbt_c.proofs.caller.nbt_caller_begin.Goals as goal

abbrev begun : (called calling : NameValue) (to : Addr) → CallerValue
begun called calling to = record { called = called; calling = calling; state = Connecting to 1 }

answers : (called calling : CName) (to : Addr) {a b : Option CallerValue} (n : ℕ) → a ≡ b → Begins called calling to n b → Begins called calling to n a
answers called calling to n is = subst (λ (held : Option CallerValue). Begins called calling to n held) (sym is)

pub returns-in_default : goal.returns-in_default
returns-in_default c = answers c.args.called.now c.args.calling.now (addr_of c.args.to) 255 (none_of c.args.caller.now.caller c.requires) (is.Begins.has_no_called c.in_default.ensures.none)

pub returns-in_default-read : goal.returns-in_default-read
returns-in_default-read c =
    answers c.args.called.now c.args.calling.now (addr_of c.args.to) 255 (none_of c.args.caller.now.caller c.requires) (is.Begins.has_no_calling c.in-Some.ensures.read.0 c.in_default-read.ensures.none)

pub returns : goal.returns
returns c =
    let called = c.in-Some.ensures.read in
    let calling = c.in-Some-read.ensures.read in
    answers c.args.called.now c.args.calling.now (addr_of c.args.to) 0 (c.put.ensures ∙ ap Some (c.begin-begun.ensures.caller ∙ (λ i. begun (called.1 i) (calling.1 i) (c.addr.ensures i)))) (is.Begins.begins called.0 calling.0)
