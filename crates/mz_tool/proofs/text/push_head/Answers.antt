use Rattle.mz_base.proofs.Offered.{appended}
use Rattle.mz_tool.proofs.text.push_head.Goals as goal

pub returns : goal.returns
returns c =
    let two = appended c.args.text.now.items _ _ _ _ c.in_ok-extend_from_slice.ensures.items c.in_ok-extend_from_slice-2.ensures.items in
    let three = appended c.args.text.now.items _ _ _ _ two c.in_ok-extend_from_slice-3.ensures.items in
    let four = appended c.args.text.now.items _ _ _ _ three c.in_ok-extend_from_slice-4.ensures.items in
    let five = appended c.args.text.now.items _ _ _ _ four c.in_ok-extend_from_slice-5.ensures.items in
    let six = appended c.args.text.now.items _ _ _ _ five c.in_ok-extend_from_slice-6.ensures.items in
    appended c.args.text.now.items _ _ _ _ six c.in_ok-extend_from_slice-7.ensures.items
