-- All rules at once, for what is proved by computing them: a proof that says `unfolding rules` opens each of them.
use Rattle.std.specs.Prelude.{ℕ}
use Rattle.std.specs.Int.Count.{ones_in, ones, count_trailing_zeros}
use Rattle.words.specs.Choice.{◌⇒◌⁏◌, ◌and◌, ◌or◌, ◌means◌}
use Rattle.words.specs.Bytes.{blank, same, four_bytes, four_at, number_in, byte_of, low_first, over, series}
use Rattle.chips.specs.Kinds.{chip_among, chip_of}
use Rattle.bits.specs.Bits.{cleared, zero_bits, zeros_of, protected_count, protection_bit, is_protected, protecting, protect_equal, packed, packed_bytes}
use Rattle.codes.specs.Counters.{spent}
use Rattle.codes.specs.Codes.{spending, judging, presenting, accepts}
use Rattle.pages.specs.Pages.{cut_start, lands, page_write}
use Rattle.stores.specs.Stores.{storing, ends_equal}
use Rattle.reads.specs.Reads.{visible, bytes_read, counter_read}
use Rattle.sets.specs.Sets.{set_with, default_set, length_of, fits_length, long_wait, fault_at, set_of, takes}
use Rattle.slot.specs.Slots.{page_for, page_after}
use Rattle.card.specs.Images.{is_card}
use Rattle.sound.specs.Sound.{page_size, empty_sound, idle_sound, type_sound, open_sound, set_sound, counts_sound, sound}
use Rattle.steps.specs.Steps.{ins_of, range_test, reaching, steps, order}
use Rattle.orders.specs.Orders.{written, written_word, said_by, image_by, slot_by, performed, commanded}
use Rattle.faults.specs.Faults.{request_of, fault_of}
use Rattle.frame.specs.Answers.{card_state, b_status, byte9, header, answer}
use Rattle.frame.specs.Exchange.{reset, deed, replied, reply, served, exchange, inserted_as, insertion}
use Rattle.reader.specs.Runs.{run}

unfoldable pub rules : ℕ
unfolding ones_in ones count_trailing_zeros ◌⇒◌⁏◌ ◌and◌ ◌or◌ ◌means◌ blank same four_bytes four_at number_in byte_of low_first over series chip_among chip_of spent cleared zero_bits zeros_of protected_count protection_bit is_protected
    protecting protect_equal packed packed_bytes set_with default_set length_of fits_length long_wait
    fault_at set_of takes page_for page_after is_card page_size empty_sound idle_sound type_sound open_sound set_sound counts_sound sound visible bytes_read
    counter_read cut_start lands page_write storing ends_equal spending judging presenting accepts ins_of range_test reaching steps order written written_word said_by image_by slot_by performed commanded reset
    request_of fault_of card_state b_status byte9 header answer deed replied reply served exchange inserted_as insertion run
rules = 0
