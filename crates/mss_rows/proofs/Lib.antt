mod RecordFacts
mod FirstFacts
mod FirstRecordFacts
