mod SharedAndNew
