use Rattle.std.specs.String.{string_bytes}
use Rattle.nbt_store.proofs.Written.{head_says}
use Rattle.nbt_store.proofs.writing.write_header.Goals as goal

pub returns-clause-says : goal.returns-clause-says
returns-clause-says c =
    let a = c.in_ok-put_number.ensures in
    let b = c.in_ok-add_number.ensures in
    let r = c.in_ok-add_number-2.ensures in
    let d = c.in_ok-add_boot.ensures in
    let e = c.in_ok-add_number-3.ensures in
    let f = c.in_ok-add_number-4.ensures in
    let g = c.in_ok-add_number-5.ensures in
    let i = c.in_ok-add_number-6.ensures in
    let j = c.in_ok-add_number-7.ensures in
    (head_says (string_bytes c.put_number.new.out) (string_bytes c.add_number.new.out) (string_bytes c.add_number-2.new.out) (string_bytes c.add_boot.new.out) (string_bytes c.add_number-3.new.out) (string_bytes c.add_number-4.new.out)
    (string_bytes c.add_number-5.new.out) (string_bytes c.add_number-6.new.out) (string_bytes c.add_number-7.new.out)
    a.0 b.0 r.0 d.0 e.0 f.0 g.0 i.0 j.0 c.args.header.now c.args.leases a.1 a.2 a.3 b.1 b.2 r.1 r.2 d.1 d.2 e.1 e.2 f.1 f.2 g.1 g.2 i.1 i.2 j.1 j.2).0

pub returns-clause-line : goal.returns-clause-line
returns-clause-line c =
    let a = c.in_ok-put_number.ensures in
    let b = c.in_ok-add_number.ensures in
    let r = c.in_ok-add_number-2.ensures in
    let d = c.in_ok-add_boot.ensures in
    let e = c.in_ok-add_number-3.ensures in
    let f = c.in_ok-add_number-4.ensures in
    let g = c.in_ok-add_number-5.ensures in
    let i = c.in_ok-add_number-6.ensures in
    let j = c.in_ok-add_number-7.ensures in
    (head_says (string_bytes c.put_number.new.out) (string_bytes c.add_number.new.out) (string_bytes c.add_number-2.new.out) (string_bytes c.add_boot.new.out) (string_bytes c.add_number-3.new.out) (string_bytes c.add_number-4.new.out)
    (string_bytes c.add_number-5.new.out) (string_bytes c.add_number-6.new.out) (string_bytes c.add_number-7.new.out)
    a.0 b.0 r.0 d.0 e.0 f.0 g.0 i.0 j.0 c.args.header.now c.args.leases a.1 a.2 a.3 b.1 b.2 r.1 r.2 d.1 d.2 e.1 e.2 f.1 f.2 g.1 g.2 i.1 i.2 j.1 j.2).1
