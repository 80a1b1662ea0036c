use Rattle.std.proofs.Common.{◌≡◌, subst, option_map, string_bytes}
use Rattle.lf_words.specs.declared.types.Asked.TheVariants as asked
use Rattle.leastfault.specs.Commands.{IsCheckOf, IsDoneFor}
use Rattle.leastfault.specs.Known.{known_of}
use Rattle.leastfault.specs.Protocols.{IsProtocolReply}
use Rattle.leastfault.specs.Delayed.{IsAnswerAsked}
use Rattle.leastfault.specs.Shown.{IsDrawnReply, IsShownReply}
use Rattle.leastfault.specs.Why.{IsWhyReply}
use Rattle.leastfault.proofs.CommandLemmas.{Done, done_alone, done_certified, done_uncertified}
use Rattle.leastfault.proofs.commands.reply_knowing.Goals as goal

pub returns-in-Some : goal.returns-in-Some
returns-in-Some g c =
    let arm = c.in-Search in
    let known = known_of c.args.known in
    let tree = option_map (λ bytes. bytes.items) c.args.texts.now.tree in
    let is = subst (λ t. c.args.asked.now ≡ asked.Search arm.file t arm.all arm.workers arm.quiet arm.protocol) c.in-Some.is arm.is in
    subst (λ text. Done known text tree c.args.asked.now c.certified_reply.result) c.as_slice-text.ensures.value
    (done_certified known c.as_slice-text.result.now tree c.args.asked.now arm.file c.in-Some.field-0 arm.all arm.workers arm.quiet arm.protocol
    c.wanted_of.result c.certified_reply.result is c.wanted_of.ensures c.certified_reply.ensures)

pub returns-in-None : goal.returns-in-None
returns-in-None g c =
    let arm = c.in-Search in
    let known = known_of c.args.known in
    let tree = option_map (λ bytes. bytes.items) c.args.texts.now.tree in
    let wanted = c.wanted_of-in-None in
    let is = subst (λ t. c.args.asked.now ≡ asked.Search arm.file t arm.all arm.workers arm.quiet arm.protocol) c.in-None.is arm.is in
    subst (λ text. Done known text tree c.args.asked.now c.uncertified.result) c.as_slice-text.ensures.value
    (done_uncertified known c.as_slice-text.result.now tree c.args.asked.now arm.file arm.all arm.workers arm.quiet arm.protocol wanted.result
    c.reply_by.result c.uncertified.result is wanted.ensures c.reply_by.ensures c.uncertified.ensures)

pub returns-in_ok-answer_asked-in-Answer : goal.returns-in_ok-answer_asked-in-Answer
returns-in_ok-answer_asked-in-Answer g c =
    let arm = c.in-Answer in
    let known = known_of c.args.known in
    let text = c.as_slice-text.result.now in
    let tree = option_map (λ bytes. bytes.items) c.args.texts.now.tree in
    let told = c.alone.result in
    subst (λ t. IsDoneFor known c.args.asked.now t tree (string_bytes told.text) told.value) c.as_slice-text.ensures.value
    (done_alone known text tree c.args.asked.now (asked.Answer arm.file arm.quiet arm.every_delay arm.protocol) (IsAnswerAsked known arm.every_delay text)
    c.in_ok-answer_asked-in-Answer.field-0 told arm.is (λ reply ended is. is) c.in_ok-answer_asked-in-Answer.ensures c.alone.ensures)

pub returns-in_ok-why_reply-in-Why : goal.returns-in_ok-why_reply-in-Why
returns-in_ok-why_reply-in-Why g c =
    let arm = c.in-Why in
    let known = known_of c.args.known in
    let text = c.as_slice-text.result.now in
    let tree = option_map (λ bytes. bytes.items) c.args.texts.now.tree in
    let told = c.alone-in-Why.result in
    subst (λ t. IsDoneFor known c.args.asked.now t tree (string_bytes told.text) told.value) c.as_slice-text.ensures.value
    (done_alone known text tree c.args.asked.now (asked.Why arm.file arm.quiet arm.protocol) (IsWhyReply known text)
    c.in_ok-why_reply-in-Why.field-0 told arm.is (λ reply ended is. is) c.in_ok-why_reply-in-Why.ensures c.alone-in-Why.ensures)

pub returns-in_ok-shown_reply-in-Run : goal.returns-in_ok-shown_reply-in-Run
returns-in_ok-shown_reply-in-Run g c =
    let arm = c.in-Run in
    let known = known_of c.args.known in
    let text = c.as_slice-text.result.now in
    let tree = option_map (λ bytes. bytes.items) c.args.texts.now.tree in
    let made = c.in_ok-shown_reply-in-Run.field-0 in
    let told = c.alone-in-Run.result in
    let replied = subst (λ words. IsShownReply known arm.shown (option_map string_bytes arm.delays) words text (string_bytes made.text) made.value)
    c.as_str.ensures.value
    (subst (λ delays. IsShownReply known arm.shown delays c.as_str.result.now text (string_bytes made.text) made.value) c.as_deref-delays.ensures.value
    c.in_ok-shown_reply-in-Run.ensures) in
    subst (λ t. IsDoneFor known c.args.asked.now t tree (string_bytes told.text) told.value) c.as_slice-text.ensures.value
    (done_alone known text tree c.args.asked.now (asked.Run arm.file arm.faults arm.shown arm.delays arm.protocol)
    (IsShownReply known arm.shown (option_map string_bytes arm.delays) (string_bytes arm.faults) text) made told arm.is (λ reply ended is. is) replied
    c.alone-in-Run.ensures)

pub returns-in_ok-drawn_reply-in-Draw : goal.returns-in_ok-drawn_reply-in-Draw
returns-in_ok-drawn_reply-in-Draw g c =
    let arm = c.in-Draw in
    let known = known_of c.args.known in
    let text = c.as_slice-text.result.now in
    let tree = option_map (λ bytes. bytes.items) c.args.texts.now.tree in
    let made = c.in_ok-drawn_reply-in-Draw.field-0 in
    let told = c.alone-in-Draw.result in
    let replied = subst (λ words. IsDrawnReply known (option_map string_bytes arm.delays) words text (string_bytes made.text) made.value)
    c.as_str-in-Draw.ensures.value
    (subst (λ delays. IsDrawnReply known delays c.as_str-in-Draw.result.now text (string_bytes made.text) made.value) c.as_deref.ensures.value
    c.in_ok-drawn_reply-in-Draw.ensures) in
    subst (λ t. IsDoneFor known c.args.asked.now t tree (string_bytes told.text) told.value) c.as_slice-text.ensures.value
    (done_alone known text tree c.args.asked.now (asked.Draw arm.file arm.faults arm.delays arm.protocol)
    (IsDrawnReply known (option_map string_bytes arm.delays) (string_bytes arm.faults) text) made told arm.is (λ reply ended is. is) replied
    c.alone-in-Draw.ensures)

pub returns-in_ok-check_asked-in-Check : goal.returns-in_ok-check_asked-in-Check
returns-in_ok-check_asked-in-Check g c =
    let arm = c.in-Check in
    let known = known_of c.args.known in
    let text = c.as_slice-text.result.now in
    let tree = option_map (λ bytes. bytes.items) c.args.texts.now.tree in
    let told = c.alone-in-Check.result in
    subst (λ t. IsDoneFor known c.args.asked.now t tree (string_bytes told.text) told.value) c.as_slice-text.ensures.value
    (done_alone known text tree c.args.asked.now (asked.Check arm.file arm.tree arm.quiet arm.protocol) (IsCheckOf known text tree)
    c.in_ok-check_asked-in-Check.field-0 told arm.is (λ reply ended is. is) c.in_ok-check_asked-in-Check.ensures c.alone-in-Check.ensures)

pub returns-in_ok-protocol_reply-in-Protocol : goal.returns-in_ok-protocol_reply-in-Protocol
returns-in_ok-protocol_reply-in-Protocol g c =
    let known = known_of c.args.known in
    let text = c.as_slice-text.result.now in
    let tree = option_map (λ bytes. bytes.items) c.args.texts.now.tree in
    let told = c.alone-in-Protocol.result in
    subst (λ t. IsDoneFor known c.args.asked.now t tree (string_bytes told.text) told.value) c.as_slice-text.ensures.value
    (done_alone known text tree c.args.asked.now (asked.Protocol c.in-Protocol.file) (IsProtocolReply text)
    c.in_ok-protocol_reply-in-Protocol.field-0 told c.in-Protocol.is (λ reply ended is. is) c.in_ok-protocol_reply-in-Protocol.ensures
    c.alone-in-Protocol.ensures)
